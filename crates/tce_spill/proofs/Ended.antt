-- What is left where a piece fails.
use Rattle.std.proofs.Common.{inl, inr, ◌⊎◌, ◌≡◌, ℕ, ◌+◌, ◌-◌, ◌<◌, ◌≤◌, true, List, length, get_or, eqb, ne_eqb, Option, Some, None, sym, subst, ◌∙◌, ap, arith}
use Rattle.std.specs.Option.{ForSome}
use Rattle.std.proofs.lemmas.Bool.{cases_lt, cases_eq, or_cases, false≢true}
use Rattle.tce_outside.specs.Files.{Files, others}
use Rattle.tce_array.specs.declared.fault.ArrayFault.{ArrayFault}
use Rattle.tce_tree.specs.ContractionTree.{operations}
use Rattle.tce_spec.specs.Declarations.{Tensor}
use Rattle.tce_spec.specs.Pieces.{Cuts, stored, is_root}
use Rattle.tce_spec.specs.Specification.{Specification, IsSpecification}
use Rattle.tce_spec.specs.PieceSpecification.{source, sources, target, piece_of}
use Rattle.tce_spec.proofs.PieceSources.{own_count, own_source, own_last, source_declared}
use Rattle.tce_job.specs.TensorFiles.{file_of, name_of}
use Rattle.tce_job.specs.Laws.{LeavesNoHalfResult}
use Rattle.tce_job.specs.Prepared.{HasTaken as HasTakenOne}
use Rattle.tce_job.specs.Several.{files_after, HasTakenEach}
use Rattle.tce_spill.specs.declared.fault.SpillFault.{SpillFault}
use Rattle.tce_spill.specs.declared.fault.SpillFault.TheVariants.{TooManyTensors, LimitTooSmall, BudgetTooSmall, Array, Disk, Memory}
use Rattle.tce_spill.specs.PieceRuns.{pieces_below}
use Rattle.tce_spill.specs.RunRefusals.{IsRunFault, IsLateFault, IsRefusedSource, IsTensorRefused}
use Rattle.tce_spill.specs.Left.{files_at, IsLeftBy, HasTakenTo}
use Rattle.tce_spill.proofs.PieceReads.{IsReadOf}
use Rattle.tce_spill.proofs.Reports.{taken_more}
use Rattle.tce_spill.proofs.Sources.{operand_is_declared, own_read, target_last, target_array}

-- no file changed where the disk tells nothing
untold : (before now after : Option Files) (s : Specification) (cut : Cuts) (n : ℕ) → now ≡ files_at before s cut n → after ≡ now → ForSome now (λ _. ⊥) → after ≡ before
untold None now after s cut n is same none = same ∙ is
untold (Some files) now after s cut n is same none = absurd (none (files_after (pieces_below s cut n) files) is)

-- the takings of the pieces in front, or of this one too
taken_to : (s : Specification) (cut : Cuts) (v budget : ℕ) (before then after : List (ℕ × ℕ)) → v < operations s.tree → is_root s.tree cut v ≡ true → HasTakenEach (pieces_below s cut v) budget before then
    → (after ≡ then) ⊎ HasTakenOne (piece_of s cut v) budget then after → HasTakenTo before after s cut budget v
taken_to s cut v budget before then after inside root front (inl same) = inl (subst (HasTakenEach (pieces_below s cut v) budget before) (sym same) front)
taken_to s cut v budget before then after inside root front (inr one) = inr (inside, taken_more s cut v budget before then after root front one)

-- what one piece does to files and room where it fails
pub record Fails (now after : Option Files) (then taken_after : List (ℕ × ℕ)) (budget : ℕ) (p : Specification) (fault : SpillFault) : Type 0 where
  pub same : (fault ≡ Disk) ⊎ (after ≡ now)
  pub others_are : others (file_of p p.result) after ≡ others (file_of p p.result) now
  pub no_half : LeavesNoHalfResult p now after
  pub room : (taken_after ≡ then) ⊎ HasTakenOne p budget then taken_after

same_files : (fault : SpillFault) (A : Type 0) → (fault ≡ Disk) ⊎ A → (fault ≡ Disk → ⊥) → A
same_files fault A (inl failed) other = absurd (other failed)
same_files fault A (inr same) other = same

pub failed_left : (before now after : Option Files) (s : Specification) (cut : Cuts) (v budget : ℕ) (fault : SpillFault) (taken then taken_after : List (ℕ × ℕ)) → v < operations s.tree → is_root s.tree cut v ≡ true
    → now ≡ files_at before s cut v → HasTakenEach (pieces_below s cut v) budget taken then → Fails now after then taken_after budget (piece_of s cut v) fault → IsRunFault now (piece_of s cut v) fault
    → IsLeftBy before after taken taken_after s cut budget fault
failed_left before now after s cut v budget Disk taken then taken_after inside root is front left why = (
  v,
  record {
    inside = inside;
    root = root;
    others = left.others_are ∙ ap (others (file_of (piece_of s cut v) (piece_of s cut v).result)) is;
    no_half = subst (λ o. LeavesNoHalfResult (piece_of s cut v) o after) is left.no_half;
  },
  taken_to s cut v budget taken then taken_after inside root front left.room,
)
failed_left before now after s cut v budget Memory taken then taken_after inside root is front left why = (
  v,
  record { inside = omega (arith, inside); files = same_files Memory (after ≡ now) left.same (λ failed. absurd (cc)) ∙ is },
  taken_to s cut v budget taken then taken_after inside root front left.room,
)
failed_left before now after s cut v budget (Array name fault) taken then taken_after inside root is front left why = (
  v,
  omega (arith, inside),
  untold before now after s cut v is (same_files (Array name fault) (after ≡ now) left.same (λ failed. absurd (cc))) why.refused,
  λ files told. absurd (why.refused (files_after (pieces_below s cut v) files) (is ∙ ap (λ o. files_at o s cut v) told)),
  taken_to s cut v budget taken then taken_after inside root front left.room,
)
failed_left before now after s cut v budget TooManyTensors taken then taken_after inside root is front left why = absurd why
failed_left before now after s cut v budget (LimitTooSmall u n) taken then taken_after inside root is front left why = absurd why
failed_left before now after s cut v budget (BudgetTooSmall n) taken then taken_after inside root is front left why = absurd why

-- what a piece reads is a tensor or the array of a cut node
known_read : (s : Specification) (cut : Cuts) (v t : ℕ) → IsSpecification s → IsReadOf s cut v t → (t < length s.declarations.tensors) ⊎ ((32 ≤ t) × (cut (t - 32) ≡ true))
known_read s cut v t rules (inl used) = inl (operand_is_declared s t rules used)
known_read s cut v t rules (inr array) = inr (array.0, array.2)

-- and so is what it computes
record IsComputed (s : Specification) (cut : Cuts) (v : ℕ) : Type 0 where
  number : ℕ
  known : (number < length s.declarations.tensors) ⊎ ((32 ≤ number) × (cut (number - 32) ≡ true))
  is : target s v ≡ source s number

computed : (s : Specification) (cut : Cuts) (v : ℕ) → IsSpecification s → is_root s.tree cut v ≡ true → IsComputed s cut v
computed s cut v rules root =
    elim (cases_eq (v + 1) (operations s.tree)) [
      | inl last ↦
          let declared = rules.contraction.result_fits.declared in
          record { number = s.result; known = inl declared; is = target_last s v last ∙ sym (source_declared s s.result (omega (arith, declared, rules.declarations.tensor_limit))) }
      | inr other ↦
          let is_cut : cut v ≡ true = elim (or_cases (cut v) (eqb (v + 1) (operations s.tree)) root) [ inl t ↦ t | inr t ↦ absurd (false≢true (sym (ne_eqb (v + 1) (operations s.tree) other) ∙ t)) ] in
          let number : stored v - 32 ≡ v = omega arith in
          record { number = stored v; known = inr (omega arith, ap cut number ∙ is_cut); is = target_array s v other }
    ]

named_source : (s : Specification) (cut : Cuts) (v : ℕ) (name : List ℕ) (fault : ArrayFault) (Refused : ℕ → Type 0) → IsSpecification s → v < operations s.tree → is_root s.tree cut v ≡ true
    → IsTensorRefused Refused (piece_of s cut v) name fault → (told : Option Files) → ForSome told (λ _. ⊥) → IsRefusedSource told s cut name fault
named_source s cut v name fault Refused rules inside root why told none =
    elim (cases_lt why.number (length (sources s cut v))) [
      | inl low ↦ record {
        number = get_or (sources s cut v) why.number 0;
        known = known_read s cut v (get_or (sources s cut v) why.number 0) rules (own_read s cut v why.number inside low);
        named = why.named ∙ ap (λ (x : Tensor). x.name) (own_source s (sources s cut v) (target s v) why.number low);
        refused = λ files eq. absurd (none files eq);
        real = why.real;
      }
      | inr high ↦
          let what = computed s cut v rules root in
          let last : why.number ≡ length (sources s cut v) = omega (arith, high, why.declared, own_count s (sources s cut v) (target s v)) in
          record {
            number = what.number;
            known = what.known;
            named = why.named ∙ ap (name_of (piece_of s cut v)) last ∙ ap (λ (x : Tensor). x.name) (own_last s (sources s cut v) (target s v) ∙ what.is);
            refused = λ files eq. absurd (none files eq);
            real = why.real;
          }
    ]

pub late_fault : (before now : Option Files) (s : Specification) (cut : Cuts) (v : ℕ) (fault : SpillFault) → IsSpecification s → v < operations s.tree → is_root s.tree cut v ≡ true
    → now ≡ files_at before s cut v → IsRunFault now (piece_of s cut v) fault → IsLateFault before s cut fault
late_fault before now s cut v (Array name fault) rules inside root is why =
    let none : ForSome before (λ _. ⊥) = λ files eq. why.refused (files_after (pieces_below s cut v) files) (is ∙ ap (λ o. files_at o s cut v) eq) in
    (none, named_source s cut v name.bytes fault _ rules inside root why before none)
late_fault before now s cut v Disk rules inside root is why = tt
late_fault before now s cut v Memory rules inside root is why = tt
late_fault before now s cut v TooManyTensors rules inside root is why = absurd why
late_fault before now s cut v (LimitTooSmall u n) rules inside root is why = absurd why
late_fault before now s cut v (BudgetTooSmall n) rules inside root is why = absurd why
