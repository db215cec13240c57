-- Elements that can be stored in a form.
use Rattle.std.proofs.Common.{ℕ, ◌+◌, ◌-◌, ◌<◌, ◌≤◌, List, length, slice_index, sym, subst, arith, inl, inr}
use Rattle.std.proofs.lemmas.Bool.{cases_lt}
use Rattle.tce_space.specs.Box.{place}
use Rattle.tce_space.specs.Tiling.{Tiling, elements}
use Rattle.tce_array.specs.declared.form.Form.{Form}
use Rattle.tce_array.specs.Forms.{Fits}
use Rattle.tce_tools.specs.Runs.{AreElements}
use Rattle.tce_tools.specs.Answers.{FitBefore, IsFirstMisfit}

-- a run of fitting elements, or the front of one
pub fit_more : (form : Form) (s : Tiling) (f : List ℕ → ℕ) (from n : ℕ) (vs : List ℕ) → AreElements s f from vs → n ≤ length vs → FitBefore form s f from → ((k : ℕ) → k < n → Fits form (slice_index vs k)) → FitBefore form s f (from + n)
fit_more form s f from n vs values len before fit xs h lt =
    elim (cases_lt (place s.extents xs) from) [
      | inl low ↦ before xs h low
      | inr high ↦
          let k : ℕ = place s.extents xs - from in
          let within : k < n = omega arith in
          subst (Fits form) (values k (omega arith) xs h (omega arith)) (fit k within)
    ]

pub misfit_at : (form : Form) (s : Tiling) (f : List ℕ → ℕ) (from p : ℕ) (vs : List ℕ) → AreElements s f from vs → from + length vs ≤ elements s → FitBefore form s f from
    → p < length vs → ((k : ℕ) → k < p → Fits form (slice_index vs k)) → (Fits form (slice_index vs p) → ⊥) → IsFirstMisfit form s f (from + p)
misfit_at form s f from p vs values room before lt fit never = record {
  inside = omega arith;
  before = fit_more form s f from p vs values (omega arith) before fit;
  misfit = λ xs h placed fits. never (subst (Fits form) (sym (values p lt xs h placed)) fits);
}
