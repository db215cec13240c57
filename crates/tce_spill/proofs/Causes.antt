-- The pieces are not run for one reason.
use Rattle.std.proofs.Common.{inl, inr, ◌⊎◌, ◌≡◌, ℕ, zero, suc, ◌*◌, ◌<◌, ◌≤◌, max, cond, List, length, Option, Some, None, Result, Err, refl, sym, ◌∙◌, ap, ap₂, subst, arith}
use Rattle.std.specs.Prelude.{⊤, IsSomeAnd}
use Rattle.std.specs.Option.{ForSome}
use Rattle.tce_outside.specs.Files.{Files}
use Rattle.tce_space.specs.Tiling.{tile_words}
use Rattle.tce_array.specs.declared.fault.ArrayFault.{ArrayFault}
use Rattle.tce_array.specs.declared.fault.ArrayFault.TheVariants as array_fault
use Rattle.tce_tree.specs.ContractionTree.{operations}
use Rattle.tce_spec.specs.Pieces.{Cuts}
use Rattle.tce_spec.specs.Storable.{shape_of_node}
use Rattle.tce_spec.specs.Specification.{Specification}
use Rattle.tce_spec.specs.PieceSpecification.{source}
use Rattle.tce_spec.specs.Declarations.{Tensor}
use Rattle.tce_spec.proofs.PieceSources.{source_declared}
use Rattle.tce_job.specs.TensorFiles.{name_of}
use Rattle.tce_job.specs.Opened.{operand, operand_count, HasOperands, IsRefused}
use Rattle.tce_job.proofs.Causes.{one_refused, none_refused}
use Rattle.tce_spill.specs.CutRefusals.{IsCutFault, IsFree}
use Rattle.tce_spill.specs.declared.fault.SpillFault.{SpillFault}
use Rattle.tce_spill.specs.declared.fault.SpillFault.TheVariants.{TooManyTensors, LimitTooSmall, BudgetTooSmall, Array, Disk, Memory}
use Rattle.tce_spill.proofs.Limits.{cuts_are_one}
use Rattle.tce_spill.proofs.Turns.{one_fault as one_cut_fault}
use Rattle.tce_spill.specs.PieceRuns.{largest_below, largest_of}
use Rattle.tce_spill.specs.RunRefusals.{AreCut, IsRefusedSource, IsSpillCause, IsKnown, IsSameFault, IsTestFault, IsLateFault, IsOpeningFault, IsRunFault, IsTensorRefused}

-- ---- the largest tile is one

largest_same : (s : Specification) (cut other : Cuts) (n : ℕ) → n ≤ operations s.tree → ((v : ℕ) → v < operations s.tree → cut v ≡ other v) → largest_below s cut n ≡ largest_below s other n
largest_same s cut other zero within same = refl
largest_same s cut other (suc n) within same =
    ap₂ max (largest_same s cut other n (omega (arith, within)) same) (ap (λ b. cond b (tile_words (shape_of_node s.declarations.space s.tree n)) 0) (same n (omega (arith, within))))

one_largest : (s : Specification) (limit : ℕ) (cut other : Cuts) → AreCut s limit cut → AreCut s limit other → largest_of s cut ≡ largest_of s other
one_largest s limit cut other a b = largest_same s cut other (operations s.tree) (omega arith) (cuts_are_one s.declarations.space s.tree limit cut other a.cuts b.cuts)

-- ---- what is no failure

-- want of memory
pub wanting : {A Q : Type 0} (given : Result A SpillFault) → given ≡ Err Memory → given ≡ Err Disk → Q
wanting given is failed = absurd (cc)

-- ---- where operands are there

-- none is refused where the disk tells its files
pub run_fault : (told : Option Files) (s : Specification) (f : SpillFault) → ForSome told (λ files. HasOperands files s (operand_count s)) → IsOpeningFault told s f → IsRunFault told s f
run_fault told s TooManyTensors operands why = absurd why
run_fault told s (LimitTooSmall v n) operands why = absurd why
run_fault told s (BudgetTooSmall n) operands why = absurd why
run_fault told s (Array name fault) operands why = record {
  number = why.number;
  declared = why.declared;
  named = why.named;
  refused = λ files is. none_refused files s (record { tensor = why.number; fault = fault }) (operands files is) (why.refused files is) why.real;
  real = why.real;
}
run_fault told s Disk operands why = tt
run_fault told s Memory operands why = absurd why

-- ---- where there are no cuts

-- a fault but those of arrays is the same where it is equal
as_same : (s : Specification) (limit : ℕ) (f due : SpillFault) → IsCutFault s limit f → (f ≡ due) ⊎ IsFree f → IsSameFault f due ⊎ IsFree f
as_same s limit TooManyTensors due why one = one
as_same s limit (LimitTooSmall v n) due why one = one
as_same s limit (BudgetTooSmall n) due why one = absurd why
as_same s limit (Array name fault) due why one = absurd why
as_same s limit Disk due why one = absurd why
as_same s limit Memory due why one = inr tt

with_cuts : (s : Specification) (limit : ℕ) (f due : SpillFault) (cut : Cuts) → IsCutFault s limit f → AreCut s limit cut → IsSameFault f due ⊎ IsFree f
with_cuts s limit TooManyTensors due cut why are = absurd (are.none TooManyTensors (λ x. x) why)
with_cuts s limit (LimitTooSmall v n) due cut why are = absurd (are.none (LimitTooSmall v n) (λ x. x) why)
with_cuts s limit (BudgetTooSmall n) due cut why are = absurd why
with_cuts s limit (Array name fault) due cut why are = absurd why
with_cuts s limit Disk due cut why are = absurd why
with_cuts s limit Memory due cut why are = inr tt

pub cut_cause : (told : Option Files) (s : Specification) (budget limit : ℕ) (f : SpillFault) → IsCutFault s limit f → IsSpillCause told s budget limit f
cut_cause told s budget limit TooManyTensors why = why
cut_cause told s budget limit (LimitTooSmall v n) why = why
cut_cause told s budget limit (BudgetTooSmall n) why = absurd why
cut_cause told s budget limit (Array name fault) why = absurd why
cut_cause told s budget limit Disk why = tt
cut_cause told s budget limit Memory why = tt

-- no cuts are wanting for a failure of the disk
pub no_disk_cuts : {A : Type 0} (s : Specification) (limit : ℕ) (f : SpillFault) (given : Result A SpillFault) → given ≡ Err f → IsCutFault s limit f → given ≡ Err Disk → ⊥
no_disk_cuts s limit f given is why failed =
    let disk : f ≡ Disk = cc in
    subst (IsCutFault s limit) disk why

pub cut_exact : (told : Option Files) (s : Specification) (budget limit : ℕ) (f due : SpillFault) → IsCutFault s limit f → (IsFree due → ⊥) → IsSpillCause told s budget limit due → IsSameFault f due ⊎ IsFree f
cut_exact told s budget limit f TooManyTensors why free cause = as_same s limit f TooManyTensors why (one_cut_fault s limit f TooManyTensors why cause free)
cut_exact told s budget limit f (LimitTooSmall v n) why free cause = as_same s limit f (LimitTooSmall v n) why (one_cut_fault s limit f (LimitTooSmall v n) why cause free)
cut_exact told s budget limit f (BudgetTooSmall n) why free cause = with_cuts s limit f (BudgetTooSmall n) cause.cut why cause.are_cut
cut_exact told s budget limit f (Array name fault) why free cause = with_cuts s limit f (Array name fault) cause.cut why cause.are_cut
cut_exact told s budget limit f Disk why free cause = absurd (free tt)
cut_exact told s budget limit f Memory why free cause = absurd (free tt)

-- ---- where the budget or an operand does not pass

module _ (told : Option Files) (s : Specification) (budget limit : ℕ) (cut : Cuts) (few : length s.declarations.tensors ≤ 31) (are : AreCut s limit cut) where
  name_is : (t : ℕ) → t < length s.declarations.tensors → (source s t).name ≡ name_of s t
  name_is t declared = ap (λ (x : Tensor). x.name) (source_declared s t (omega (arith, declared, few)))

  pub test_cause : (f : SpillFault) → IsTestFault told s cut budget f → IsSpillCause told s budget limit f
  test_cause (BudgetTooSmall n) why = record { cut = cut; are_cut = are; here = record { words = why.0; below = why.1 } }
  test_cause (Array name fault) why =
      record {
        cut = cut;
        are_cut = are;
        here = record {
          enough = why.0;
          source = record {
            number = why.1.number;
            known = inl why.1.declared;
            named = why.1.named ∙ sym (name_is why.1.number why.1.declared);
            refused = λ files eq. (why.1.declared, why.1.refused files eq);
            real = why.1.real;
          };
        };
      }
  test_cause Disk why = tt
  test_cause Memory why = tt
  test_cause TooManyTensors why = absurd why
  test_cause (LimitTooSmall v n) why = absurd why

  both_told : (o : Option Files) (n m : List ℕ) (f g : ArrayFault) (other : Cuts) → IsTensorRefused (λ t. ForSome o (λ files. IsRefused files s (record { tensor = t; fault = f }))) s n f → IsRefusedSource o s other m g → IsSomeAnd o (λ _. ⊤)
      → (n ≡ m) × (f ≡ g)
  both_told None n m f g other a b known = absurd known
  both_told (Some files) n m f g other a b known =
      let there = b.refused files refl in
      let one = one_refused files s (record { tensor = a.number; fault = f }) (record { tensor = b.number; fault = g }) (a.refused files refl) there.1 a.real b.real in
      (a.named ∙ sym (name_is a.number a.declared) ∙ ap (λ t. (source s t).name) one.0 ∙ sym b.named, one.1)

  pub test_exact : (f due : SpillFault) → IsTestFault told s cut budget f → (IsFree due → ⊥) → IsSpillCause told s budget limit due → IsKnown told due → IsSameFault f due ⊎ IsFree f
  test_exact Disk due why free cause known = inr tt
  test_exact Memory due why free cause known = inr tt
  test_exact TooManyTensors due why free cause known = absurd why
  test_exact (LimitTooSmall v n) due why free cause known = absurd why
  test_exact f Disk why free cause known = absurd (free tt)
  test_exact f Memory why free cause known = absurd (free tt)
  test_exact f TooManyTensors why free cause known = absurd (are.none TooManyTensors free cause)
  test_exact f (LimitTooSmall v n) why free cause known = absurd (are.none (LimitTooSmall v n) free cause)
  test_exact (BudgetTooSmall n) (BudgetTooSmall m) why free cause known =
      inl (ap BudgetTooSmall (why.0 ∙ ap (λ l. 3 * l) (one_largest s limit cut cause.cut are cause.are_cut) ∙ sym cause.here.words))
  test_exact (BudgetTooSmall n) (Array name fault) why free cause known =
      let same = one_largest s limit cut cause.cut are cause.are_cut in absurd (omega (arith, same, why.0, why.1, cause.here.enough))
  test_exact (Array name fault) (BudgetTooSmall m) why free cause known =
      let same = one_largest s limit cut cause.cut are cause.are_cut in absurd (omega (arith, same, why.0, cause.here.words, cause.here.below))
  test_exact (Array n f) (Array m g) why free cause known = inl (both_told told n.bytes m.bytes f g cause.cut why.1 cause.here.source known)

  -- ---- where all was tested

  module _ (enough : 3 * largest_of s cut ≤ budget) (has : ForSome told (λ files. HasOperands files s (operand_count s))) where
    none_known : (o : Option Files) (m : List ℕ) (g : ArrayFault) (other : Cuts) → ForSome o (λ files. HasOperands files s (operand_count s)) → IsRefusedSource o s other m g → IsSomeAnd o (λ _. ⊤) → ⊥
    none_known None m g other there b known = known
    none_known (Some files) m g other there b known = none_refused files s (record { tensor = b.number; fault = g }) (there files refl) (b.refused files refl).1 b.real

    -- what was run had no cause to be refused
    pub no_cause : (due : SpillFault) → (IsFree due → ⊥) → IsSpillCause told s budget limit due → IsKnown told due → ⊥
    no_cause TooManyTensors free cause known = are.none TooManyTensors free cause
    no_cause (LimitTooSmall v n) free cause known = are.none (LimitTooSmall v n) free cause
    no_cause (BudgetTooSmall m) free cause known =
        let same = one_largest s limit cut cause.cut are cause.are_cut in omega (arith, same, enough, cause.here.words, cause.here.below)
    no_cause (Array m g) free cause known = none_known told m.bytes g cause.cut has cause.here.source known
    no_cause Disk free cause known = free tt
    no_cause Memory free cause known = free tt

    pub late_cause : (f : SpillFault) → IsLateFault told s cut f → IsSpillCause told s budget limit f
    late_cause (Array name fault) why = record { cut = cut; are_cut = are; here = record { enough = enough; source = why.1 } }
    late_cause Disk why = tt
    late_cause Memory why = tt
    late_cause TooManyTensors why = absurd why
    late_cause (LimitTooSmall v n) why = absurd why
    late_cause (BudgetTooSmall n) why = absurd why

    pub late_exact : (f due : SpillFault) → IsLateFault told s cut f → (IsFree due → ⊥) → IsSpillCause told s budget limit due → IsKnown told due → IsSameFault f due ⊎ IsFree f
    late_exact f due why free cause known = absurd (no_cause due free cause known)

-- a fault that comes late is free where the disk tells its files
pub late_free : (told : Option Files) (s : Specification) (cut : Cuts) (f : SpillFault) → IsLateFault told s cut f → ForSome told (λ _. (IsFree f → ⊥) → ⊥)
late_free told s cut (Array name fault) why = λ files eq free. why.0 files eq
late_free told s cut Disk why = λ files eq free. free tt
late_free told s cut Memory why = λ files eq free. free tt
late_free told s cut TooManyTensors why = absurd why
late_free told s cut (LimitTooSmall v n) why = absurd why
late_free told s cut (BudgetTooSmall n) why = absurd why
