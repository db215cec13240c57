-- The numbers of the first turn, loop by loop.
use Rattle.std.proofs.Common.{◌≡◌, ℕ, suc, ◌-◌, ◌<◌, ◌≤◌, ◌||◌, if◌then◌else◌, List, ◌∷◌, length, drop, slice_index, slice_set, sym, ap, ◌∙◌, inl, inr, arith}
use Rattle.std.proofs.Math.Seq.{drop-cons}
use Rattle.std.proofs.lemmas.Bool.{cases_eq, eq-eqb, ne_eqb}
use Rattle.std.proofs.lemmas.Grind.{get_or-set_at}
use Rattle.std.proofs.lemmas.List.{get_or-set_other, length-set}
use Rattle.tce_tree.specs.Value.{Assignment, assignment}
use Rattle.tce_tree.specs.WellFormed.{among}

-- the number of each index, where these loops begin at these numbers
abbrev pub first_number : List ℕ → List ℕ → List ℕ → Assignment
first_number numbers loops from = λ i. if among loops i then assignment loops from i else slice_index numbers i

pub record AreFirst (numbers loops from first : List ℕ) : Type 0 where
  pub each : length first ≡ 24
  pub are : (i : ℕ) → slice_index first i ≡ first_number numbers loops from i

-- ---- one loop more, in front of these

at_front : (numbers : List ℕ) (x : ℕ) (xs : List ℕ) (f : ℕ) (fs : List ℕ) (i : ℕ) → i ≡ x → first_number numbers (x ∷ xs) (f ∷ fs) i ≡ f
at_front numbers x xs f fs i same =
    ap (λ b. if b || among xs i then assignment (x ∷ xs) (f ∷ fs) i else slice_index numbers i) (eq-eqb x i (sym same))
    ∙ ap (λ b. if b then f else assignment xs fs i) (eq-eqb i x same)

past_front : (numbers : List ℕ) (x : ℕ) (xs : List ℕ) (f : ℕ) (fs : List ℕ) (i : ℕ) → (i ≡ x → ⊥) → first_number numbers (x ∷ xs) (f ∷ fs) i ≡ first_number numbers xs fs i
past_front numbers x xs f fs i other =
    ap (λ b. if b || among xs i then assignment (x ∷ xs) (f ∷ fs) i else slice_index numbers i) (ne_eqb x i (λ is. other (sym is)))
    ∙ ap (λ b. if among xs i then (if b then f else assignment xs fs i) else slice_index numbers i) (ne_eqb i x other)

pub loop_in_front : (numbers loops from now : List ℕ) (d : ℕ) → 0 < d → d ≤ length loops → length from ≡ length loops → slice_index loops (d - 1) < 24
    → AreFirst numbers (drop d loops) (drop d from) now → AreFirst numbers (drop (d - 1) loops) (drop (d - 1) from) (slice_set now (slice_index loops (d - 1)) (slice_index from (d - 1)))
loop_in_front numbers loops from now d some low each known so_far =
    let x : ℕ = slice_index loops (d - 1) in
    let f : ℕ = slice_index from (d - 1) in
    let back : suc (d - 1) ≡ d = omega arith in
    let xs : drop (d - 1) loops ≡ x ∷ drop d loops = drop-cons loops (d - 1) 0 (omega arith) ∙ ap (λ n. x ∷ drop n loops) back in
    let fs : drop (d - 1) from ≡ f ∷ drop d from = drop-cons from (d - 1) 0 (omega arith) ∙ ap (λ n. f ∷ drop n from) back in
    rw (xs, fs) (record {
      each = length-set now x f ∙ so_far.each;
      are = λ i. elim (cases_eq i x) [
        | inl same ↦ get_or-set_at now x i f 0 same (omega (arith, known, so_far.each)) ∙ sym (at_front numbers x (drop d loops) f (drop d from) i same)
        | inr other ↦ get_or-set_other now x i f 0 other ∙ so_far.are i ∙ sym (past_front numbers x (drop d loops) f (drop d from) i other)
      ];
    })
