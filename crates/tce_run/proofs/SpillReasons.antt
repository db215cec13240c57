-- The command that runs a tree in pieces has one answer.
use Rattle.std.proofs.Common.{◌≡◌, ◌⊎◌, inl, inr, ℕ, ◌*◌, ◌<◌, ◌≤◌, List, [], length, Option, Some, Ok, refl, sym, ap, ◌∙◌, subst, arith}
use Rattle.std.specs.Option.{ForSome}
use Rattle.std.proofs.lemmas.Bool.{cases_lt}
use Rattle.tce_outside.specs.Files.{Files, file}
use Rattle.tce_array.specs.declared.fault.ArrayFault.{ArrayFault}
use Rattle.arrayvec.specs.ArrayString.{ArrayString}
use Rattle.tce_spec.specs.Declarations.{Tensor}
use Rattle.tce_spec.specs.Pieces.{Cuts}
use Rattle.tce_spec.specs.Specification.{Specification, IsSpecification}
use Rattle.tce_spec.specs.PieceSpecification.{source}
use Rattle.tce_spec.proofs.PieceSources.{source_declared}
use Rattle.tce_spec.proofs.Seen.{operand_declared}
use Rattle.tce_job.specs.TensorFiles.{name_of}
use Rattle.tce_job.specs.Opened.{HasOperands, IsRefused, operand_count}
use Rattle.tce_spill.specs.CutRefusals.{IsFree as IsFreeFault}
use Rattle.tce_spill.specs.declared.fault.SpillFault.{SpillFault}
use Rattle.tce_spill.specs.declared.fault.SpillFault.TheVariants as faults
use Rattle.tce_spill.specs.PieceRuns.{largest_of}
use Rattle.tce_spill.specs.RunRefusals.{AreCut, IsExact, IsKnown, IsOpeningFault, IsRefusedSource, IsSameFault, IsSpillCause}
use Rattle.tce_spill.proofs.Causes.{cut_exact, no_cause, test_exact}
use Rattle.tce_spill.proofs.Ready.{few_of}
use Rattle.tce_command.specs.Refusals.{IsFree, SameRefusal}
use Rattle.tce_command.specs.declared.refusal.Refusal.{Refusal}
use Rattle.tce_command.proofs.Outcomes.{one, one_refusal, not_both}
use Rattle.tce_run.specs.Told.{TellsArray}
use Rattle.tce_run.specs.SpillDone.{IsSpillRun}
use Rattle.tce_run.specs.SpillRefusals.{CanRunPieces, CanSpill, IsPieceRefusal, IsSpillRefusal, IsToldAs}
use Rattle.tce_run.proofs.Alike.{arrays_alike, same_alike}
use Rattle.tce_run.proofs.Opened.{HasRefused, operands_or_refused}

-- What is told of a fault.

told_alike : (f : SpillFault) (a b : Refusal) → IsToldAs f a → IsToldAs f b → SameRefusal a b
told_alike faults.TooManyTensors a b p q = same_alike a b (p ∙ sym q)
told_alike (faults.LimitTooSmall v n) a b p q = same_alike a b (p ∙ sym q)
told_alike (faults.BudgetTooSmall n) a b p q = same_alike a b (p ∙ sym q)
told_alike (faults.Array name u) a b p q = arrays_alike name.bytes u a b p q
told_alike faults.Disk a b p q = same_alike a b (p ∙ sym q)
told_alike faults.Memory a b p q = same_alike a b (p ∙ sym q)

as_due : (f due : SpillFault) (a b : Refusal) → f ≡ due → IsToldAs f a → IsToldAs due b → SameRefusal a b
as_due f due a b same p q = told_alike due a b (subst (λ g. IsToldAs g a) same p) q

as_array : (n m : List ℕ) (u v : ArrayFault) (a b : Refusal) → n ≡ m → u ≡ v → TellsArray n u a → TellsArray m v b → SameRefusal a b
as_array n m u v a b names same p q = arrays_alike m v a b (subst (λ w. TellsArray m w a) same (subst (λ l. TellsArray l u a) names p)) q

-- one fault is told alike
same_told : (f due : SpillFault) (a b : Refusal) → IsSameFault f due → IsToldAs f a → IsToldAs due b → SameRefusal a b
same_told (faults.Array n u) (faults.Array m v) a b same p q = as_array n.bytes m.bytes u v a b same.0 same.1 p q
same_told (faults.Array n u) due a b same p q = absurd same
same_told faults.TooManyTensors due a b same p q = as_due faults.TooManyTensors due a b same p q
same_told (faults.LimitTooSmall v n) due a b same p q = as_due (faults.LimitTooSmall v n) due a b same p q
same_told (faults.BudgetTooSmall n) due a b same p q = as_due (faults.BudgetTooSmall n) due a b same p q
same_told faults.Disk due a b same p q = as_due faults.Disk due a b same p q
same_told faults.Memory due a b same p q = as_due faults.Memory due a b same p q

-- what may come anywhere is told so
pub told_free : (f : SpillFault) (a : Refusal) → IsToldAs f a → IsFreeFault f → IsFree a
told_free faults.TooManyTensors a told free = absurd free
told_free (faults.LimitTooSmall v n) a told free = absurd free
told_free (faults.BudgetTooSmall n) a told free = absurd free
told_free (faults.Array name u) a told free = absurd free
told_free faults.Disk a told free = subst IsFree (sym told) tt
told_free faults.Memory a told free = subst IsFree (sym told) tt

-- Causes.

-- an operand is known to be refused where the disk tells its files
known : (files : Files) (f : SpillFault) → IsKnown (Some files) f
known files faults.TooManyTensors = tt
known files (faults.LimitTooSmall v n) = tt
known files (faults.BudgetTooSmall n) = tt
known files (faults.Array name u) = tt
known files faults.Disk = tt
known files faults.Memory = tt

name_is : (s : Specification) (t : ℕ) → t < length s.declarations.tensors → length s.declarations.tensors ≤ 31 → (source s t).name ≡ name_of s t
name_is s t declared few = ap (λ (x : Tensor). x.name) (source_declared s t (omega (arith, declared, few)))

opening : (files : Files) (s : Specification) (cut : Cuts) (name : ArrayString) (u : ArrayFault) → length s.declarations.tensors ≤ 31 → IsRefusedSource (Some files) s cut name.bytes u
    → IsOpeningFault (Some files) s (faults.Array name u)
opening files s cut name u few from =
    let there = from.refused files refl in
    record {
      number = from.number;
      declared = there.0;
      named = from.named ∙ name_is s from.number there.0 few;
      refused = λ others told. (from.refused others told).1;
      real = from.real;
    }

one_cause : (files : Files) (s : Specification) (budget limit : ℕ) (f due : SpillFault) → IsSpillCause (Some files) s budget limit f → (IsFreeFault due → ⊥) → IsSpillCause (Some files) s budget limit due
    → IsSameFault f due ⊎ IsFreeFault f
one_cause files s budget limit faults.TooManyTensors due why free cause = cut_exact (Some files) s budget limit faults.TooManyTensors due why free cause
one_cause files s budget limit (faults.LimitTooSmall v n) due why free cause = cut_exact (Some files) s budget limit (faults.LimitTooSmall v n) due why free cause
one_cause files s budget limit (faults.BudgetTooSmall n) due why free cause =
    test_exact (Some files) s budget limit why.cut (few_of s limit why.are_cut.none) why.are_cut (faults.BudgetTooSmall n) due (why.here.words, why.here.below) free cause (known files due)
one_cause files s budget limit (faults.Array name u) due why free cause =
    let few = few_of s limit why.are_cut.none in
    test_exact (Some files) s budget limit why.cut few why.are_cut (faults.Array name u) due (why.here.enough, opening files s why.cut name u few why.here.source) free cause (known files due)
one_cause files s budget limit faults.Disk due why free cause = inr tt
one_cause files s budget limit faults.Memory due why free cause = inr tt

-- what can be run has no cause
none_due : (files : Files) (s : Specification) (budget limit : ℕ) (due : SpillFault) → CanRunPieces files s budget limit → (IsFreeFault due → ⊥) → IsSpillCause (Some files) s budget limit due → ⊥
none_due files s budget limit due can free cause =
    no_cause (Some files) s budget limit can.cut (few_of s limit can.are_cut.none) can.are_cut can.enough
    (λ others told. let same : files ≡ others = cc in subst (λ x. HasOperands x s (operand_count s)) same can.operands) due free cause (known files due)

free_piece : (files : Files) (s : Specification) (budget limit : ℕ) (f : SpillFault) (a : Refusal) → CanRunPieces files s budget limit → IsSpillCause (Some files) s budget limit f → IsToldAs f a → IsFree a
free_piece files s budget limit faults.Disk a can cause told = subst IsFree (sym told) tt
free_piece files s budget limit faults.Memory a can cause told = subst IsFree (sym told) tt
free_piece files s budget limit faults.TooManyTensors a can cause told = absurd (none_due files s budget limit faults.TooManyTensors can (λ x. x) cause)
free_piece files s budget limit (faults.LimitTooSmall v n) a can cause told = absurd (none_due files s budget limit (faults.LimitTooSmall v n) can (λ x. x) cause)
free_piece files s budget limit (faults.BudgetTooSmall n) a can cause told = absurd (none_due files s budget limit (faults.BudgetTooSmall n) can (λ x. x) cause)
free_piece files s budget limit (faults.Array name u) a can cause told = absurd (none_due files s budget limit (faults.Array name u) can (λ x. x) cause)

one_piece : (files : Files) (s : Specification) (budget limit : ℕ) (a b : Refusal) → IsPieceRefusal files s budget limit a → IsPieceRefusal files s budget limit b → (IsFree b → ⊥) → IsFree a ⊎ SameRefusal a b
one_piece files s budget limit a b p q free =
    elim (one_cause files s budget limit p.fault q.fault p.cause (λ h. free (told_free q.fault b q.told h)) q.cause) [
      | inl same ↦ inr (same_told p.fault q.fault a b same p.told q.told)
      | inr is_free ↦ inl (told_free p.fault a p.told is_free)
    ]

-- The laws.

pub granted_spill : (files : Files) (spec : List ℕ) (budget limit : ℕ) (a : Refusal) → CanSpill files spec budget limit → IsSpillRefusal files spec budget limit a → IsFree a
granted_spill files spec budget limit a (s, specified, can) (inl p) = not_both files spec s a specified p
granted_spill files spec budget limit a (s, specified, can) (inr (t, also, p)) =
    free_piece files t budget limit p.fault a (subst (λ (x : Specification). CanRunPieces files x budget limit) (one files spec s t specified also) can) p.cause p.told

pub alone_spill : (files : Files) (spec : List ℕ) (budget limit : ℕ) (a b : Refusal) → IsSpillRefusal files spec budget limit a → IsSpillRefusal files spec budget limit b → (IsFree b → ⊥) → IsFree a ⊎ SameRefusal a b
alone_spill files spec budget limit a b (inl p) (inl q) free = one_refusal spec (file files spec) a b p q free
alone_spill files spec budget limit a b (inl p) (inr (s, specified, q)) free = inl (not_both files spec s a specified p)
alone_spill files spec budget limit a b (inr (s, specified, p)) (inl q) free = absurd (free (not_both files spec s b specified q))
alone_spill files spec budget limit a b (inr (s, specified, p)) (inr (t, also, q)) free =
    one_piece files t budget limit a b (subst (λ (x : Specification). IsPieceRefusal files x budget limit a) (one files spec s t specified also) p) q free

pub possible_spill : (files : Files) (after : Option Files) (taken taken_after : List (ℕ × ℕ)) (spec : List ℕ) (budget limit : ℕ) (report : List ℕ) → IsSpillRun (Some files) after taken taken_after spec budget limit report
    → CanSpill files spec budget limit
possible_spill files after taken taken_after spec budget limit report ran = (ran.specification, ran.specified files refl, ran.able files refl)

-- What was run could be run, since no other answer was due.

budget_passed : {A : Type 0} (told : Option Files) (s : Specification) (budget limit : ℕ) (cut : Cuts) (answer : A) → AreCut s limit cut → IsExact told s budget limit (Ok answer) → 3 * largest_of s cut ≤ budget
budget_passed told s budget limit cut answer are exact =
    elim (cases_lt budget (3 * largest_of s cut)) [
      | inl below ↦ absurd (exact (faults.BudgetTooSmall (3 * largest_of s cut)) (λ x. x) (record { cut = cut; are_cut = are; here = record { words = refl; below = below } }) tt)
      | inr enough ↦ enough
    ]

operands_passed : {A : Type 0} (files : Files) (s : Specification) (budget limit : ℕ) (cut : Cuts) (answer : A) → IsSpecification s → AreCut s limit cut → 3 * largest_of s cut ≤ budget
    → IsExact (Some files) s budget limit (Ok answer) → HasOperands files s (operand_count s) ⊎ HasRefused files s → HasOperands files s (operand_count s)
operands_passed files s budget limit cut answer rules are enough exact (inl has) = has
operands_passed files s budget limit cut answer rules are enough exact (inr (r, ((d, at), real))) =
    let declared : r.tensor < length s.declarations.tensors = subst (λ t. t < length s.declarations.tensors) (sym at.tensor) (operand_declared s rules.contraction.leaves_fit d at.one_of_them) in
    let name : ArrayString = record { bytes = (source s r.tensor).name; spare = [] } in
    absurd (exact (faults.Array name r.fault) (λ x. x) (record {
      cut = cut;
      are_cut = are;
      here = record {
        enough = enough;
        source = record {
          number = r.tensor;
          known = inl declared;
          named = refl;
          refused = λ others told. (declared, refused_in others told);
          real = real;
        };
      };
    }) tt)
  where
    refused_in : (others : Files) → Some files ≡ Some others → IsRefused others s (record { tensor = r.tensor; fault = r.fault })
    refused_in others told = let same : files ≡ others = cc in subst (λ x. IsRefused x s r) same (d, at)

pub could_run : {A : Type 0} (before middle : Option Files) (s : Specification) (budget limit : ℕ) (cut : Cuts) (answer : A) → middle ≡ before → IsSpecification s → AreCut s limit cut → IsExact middle s budget limit (Ok answer)
    → ForSome before (λ files. CanRunPieces files s budget limit)
could_run before middle s budget limit cut answer same rules are exact files told =
    let enough = budget_passed middle s budget limit cut answer are exact in
    let exactly = subst (λ (o : Option Files). IsExact o s budget limit (Ok answer)) (same ∙ told) exact in
    record {
      cut = cut;
      are_cut = are;
      enough = enough;
      operands = operands_passed files s budget limit cut answer rules are enough exactly (operands_or_refused files s (operand_count s) (omega arith));
    }
