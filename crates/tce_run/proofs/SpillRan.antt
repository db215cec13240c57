-- What the command leaves that runs a tree in pieces, by what the runs of the pieces leave.
use Rattle.std.proofs.Common.{◌≡◌, ◌⊎◌, inl, inr, ℕ, ◌≤◌, List, Option, Some, None, Result, Err, refl, sym, subst, ◌∙◌, ap}
use Rattle.std.specs.Option.{ForSome}
use Rattle.tce_outside.specs.Files.{Files}
use Rattle.tce_array.specs.declared.fault.ArrayFault.{ArrayFault}
use Rattle.tce_array.specs.declared.fault.ArrayFault.TheVariants as array_fault
use Rattle.tce_tree.specs.ContractionTree.{operations}
use Rattle.tce_spec.specs.Pieces.{Cuts}
use Rattle.tce_spec.specs.Specification.{Specification}
use Rattle.tce_job.specs.Several.{OnlyResultsDiffer}
use Rattle.tce_spill.specs.declared.fault.SpillFault.{SpillFault}
use Rattle.tce_spill.specs.declared.fault.SpillFault.TheVariants as faults
use Rattle.tce_spill.specs.PieceRuns.{pieces_of}
use Rattle.tce_spill.specs.CutRefusals.{IsFree as IsFreeFault}
use Rattle.tce_spill.specs.RunRefusals.{AreCut, IsSpillCause, WithCuts}
use Rattle.tce_spill.specs.Left.{HasSpilled, HasTakenTo, IsLeft, OnlyPiecesDiffer as OnlyFilesOfPiecesDiffer}
use Rattle.tce_command.specs.declared.refusal.Refusal.{Refusal}
use Rattle.tce_command.specs.declared.refusal.Refusal.TheVariants.{Disk, Memory}
use Rattle.tce_command.specs.Source.{HasSpecification}
use Rattle.tce_run.specs.Told.{TellsArray}
use Rattle.tce_run.proofs.Ran.{within}
use Rattle.tce_run.proofs.Told.{refusal_in}
use Rattle.tce_run.specs.SpillDone.{IsSpillLeft, IsSpillPrefix, IsSpillRoomLeft, IsSpillRun, OnlyPiecesDiffer}
use Rattle.tce_run.specs.SpillOfSource.{ArePiecesRun, IsPieceFault}
use Rattle.tce_run.specs.SpillRefusals.{IsOfFiles, IsSpillRefusalOn, IsToldAs}
use Rattle.tce_run.proofs.May.{untold_pieces}
use Rattle.tce_run.proofs.SpillReasons.{told_free}
use Rattle.tce_run.proofs.BatchRan.{within_each}

-- an array is refused for its file
pub of_files : (told : Option Files) (s : Specification) (budget limit : ℕ) (f : SpillFault) → IsSpillCause told s budget limit f → IsOfFiles f
of_files told s budget limit (faults.Array name u) why = why.here.source.real
of_files told s budget limit faults.TooManyTensors why = tt
of_files told s budget limit (faults.LimitTooSmall v n) why = tt
of_files told s budget limit (faults.BudgetTooSmall n) why = tt
of_files told s budget limit faults.Disk why = tt
of_files told s budget limit faults.Memory why = tt

-- a refusal is that of a failure only where the disk failed
no_failure : (name : List ℕ) (u : ArrayFault) → TellsArray name u Disk → ⊥
no_failure name array_fault.NoFile told = told
no_failure name u told = told

failed_told : (f : SpillFault) (a : Refusal) → IsToldAs f a → a ≡ Disk → f ≡ faults.Disk
failed_told faults.TooManyTensors a told failed = absurd (cc)
failed_told (faults.LimitTooSmall v n) a told failed = absurd (cc)
failed_told (faults.BudgetTooSmall n) a told failed = absurd (cc)
failed_told (faults.Array name u) a told failed = absurd (no_failure name.bytes u (subst (TellsArray name.bytes u) failed told))
failed_told faults.Disk a told failed = refl
failed_told faults.Memory a told failed = absurd (cc)

-- and what is told as none was none
disk_told : (f : SpillFault) (a : Refusal) → IsToldAs f a → f ≡ faults.Disk → a ≡ Disk
disk_told f a told failed = subst (λ g. IsToldAs g a) failed told

pub told_failure : {A B : Type 0} (f : SpillFault) (a : Refusal) (given : Result A SpillFault) (told : Result B Refusal) → given ≡ Err f → told ≡ Err a → IsToldAs f a → told ≡ Err Disk → given ≡ Err faults.Disk
told_failure f a given told is was says failed = is ∙ ap Err (failed_told f a says (sym (ap refusal_in was) ∙ ap refusal_in failed))

pub told_no_failure : {A B : Type 0} (f : SpillFault) (a : Refusal) (given : Result A SpillFault) (told : Result B Refusal) → given ≡ Err f → told ≡ Err a → IsToldAs f a → (told ≡ Err Disk → ⊥) → given ≡ Err faults.Disk → ⊥
told_no_failure f a given told is was says none failed =
    let same : Err f ≡ Err faults.Disk = sym is ∙ failed in
    let fault : f ≡ faults.Disk = cc in
    none (was ∙ ap Err (disk_told f a says fault))

pub spill_refused : (before middle after : Option Files) (taken taken_after : List (ℕ × ℕ)) (spec : List ℕ) (budget limit : ℕ) (s : Specification) (a : Refusal) → middle ≡ before
    → ForSome before (λ files. HasSpecification files spec s) → IsPieceFault middle after taken taken_after s budget limit a → IsSpillRefusalOn before spec budget limit a
spill_refused before middle after taken taken_after spec budget limit s a same specified left = (
  inr (s, record { fault = left.fault; told = left.told; cause = untold_pieces middle s budget limit left.fault left.cause }),
  λ files is.
      inr (s, specified files is, record { fault = left.fault; cause = subst (λ (o : Option Files). IsSpillCause o s budget limit left.fault) (same ∙ is) left.cause; told = left.told }),
)

-- What is left.

pub unchanged_left : (before after : Option Files) (spec : List ℕ) (limit : ℕ) (a : Refusal) → after ≡ before → IsSpillLeft a before after spec limit
unchanged_left before after spec limit Disk same = inl same
unchanged_left before after spec limit Memory same = inl same
unchanged_left before after spec limit a same = same

files_left : (before after : Option Files) (taken taken_after : List (ℕ × ℕ)) (spec : List ℕ) (budget limit : ℕ) (s : Specification) (f : SpillFault) (a : Refusal) → ForSome before (λ files. HasSpecification files spec s)
    → IsToldAs f a → IsLeft before after taken taken_after s budget limit f → IsSpillLeft a before after spec limit
files_left before after taken taken_after spec budget limit s f a specified told (inl same) = unchanged_left before after spec limit a same.0
files_left before after taken taken_after spec budget limit s faults.Disk a specified told (inr some) =
    subst (λ r. IsSpillLeft r before after spec limit) (sym told)
    (inr (record { specification = s; specified = specified; piece = record { cut = some.cut; are_cut = some.are_cut; here = (some.here.0, some.here.1) } }))
files_left before after taken taken_after spec budget limit s faults.Memory a specified told (inr some) =
    subst (λ r. IsSpillLeft r before after spec limit) (sym told)
    (inr (record { specification = s; specified = specified; pieces = record { cut = some.cut; are_cut = some.are_cut; here = (some.here.0, some.here.1) } }))
files_left before after taken taken_after spec budget limit s faults.TooManyTensors a specified told (inr some) = unchanged_left before after spec limit a some.here.0
files_left before after taken taken_after spec budget limit s (faults.LimitTooSmall v n) a specified told (inr some) = unchanged_left before after spec limit a some.here.0
files_left before after taken taken_after spec budget limit s (faults.BudgetTooSmall n) a specified told (inr some) = unchanged_left before after spec limit a some.here.0
files_left before after taken taken_after spec budget limit s (faults.Array name u) a specified told (inr some) = unchanged_left before after spec limit a some.here.2

pub spill_left : (before middle after : Option Files) (taken taken_after : List (ℕ × ℕ)) (spec : List ℕ) (budget limit : ℕ) (s : Specification) (a : Refusal) → middle ≡ before
    → ForSome before (λ files. HasSpecification files spec s) → IsPieceFault middle after taken taken_after s budget limit a → IsSpillLeft a before after spec limit
spill_left before middle after taken taken_after spec budget limit s a same specified left =
    files_left before after taken taken_after spec budget limit s left.fault a specified left.told (subst (λ (o : Option Files). IsLeft o after taken taken_after s budget limit left.fault) same left.left)

-- where the disk tells its files, nothing was taken for an array that is refused
untold_taken : (before after : Option Files) (taken taken_after : List (ℕ × ℕ)) (spec : List ℕ) (budget limit : ℕ) (s : Specification) (cut : Cuts) (n : ℕ) → n ≤ operations s.tree → AreCut s limit cut
    → ForSome before (λ files. HasSpecification files spec s) → after ≡ before → ForSome before (λ _. taken_after ≡ taken) → HasTakenTo taken taken_after s cut budget n
    → ((after ≡ before) × (taken_after ≡ taken)) ⊎ IsSpillPrefix before after taken taken_after spec budget limit
untold_taken (Some files) after taken taken_after spec budget limit s cut n inside are specified same untaken some = inl (same, untaken files refl)
untold_taken None after taken taken_after spec budget limit s cut n inside are specified same untaken some =
    inr (record { specification = s; specified = specified; run = record { cut = cut; are_cut = are; here = record { end = n; files_are = inl (record { inside = inside; files = same }); takings = some } } })

taken_in_turn : (before after : Option Files) (taken taken_after : List (ℕ × ℕ)) (spec : List ℕ) (budget limit : ℕ) (s : Specification) (f : SpillFault) → ForSome before (λ files. HasSpecification files spec s)
    → IsLeft before after taken taken_after s budget limit f → ((after ≡ before) × (taken_after ≡ taken)) ⊎ IsSpillPrefix before after taken taken_after spec budget limit
taken_in_turn before after taken taken_after spec budget limit s f specified (inl same) = inl same
taken_in_turn before after taken taken_after spec budget limit s faults.Disk specified (inr some) =
    inr (record {
      specification = s;
      specified = specified;
      run = record { cut = some.cut; are_cut = some.are_cut; here = record { end = some.here.0; files_are = inr some.here.1; takings = some.here.2 } };
    })
taken_in_turn before after taken taken_after spec budget limit s faults.Memory specified (inr some) =
    inr (record {
      specification = s;
      specified = specified;
      run = record { cut = some.cut; are_cut = some.are_cut; here = record { end = some.here.0; files_are = inl some.here.1; takings = some.here.2 } };
    })
taken_in_turn before after taken taken_after spec budget limit s (faults.Array name u) specified (inr some) =
    untold_taken before after taken taken_after spec budget limit s some.cut some.here.0 some.here.1 some.are_cut specified some.here.2 some.here.3 some.here.4
taken_in_turn before after taken taken_after spec budget limit s faults.TooManyTensors specified (inr some) = inl some.here
taken_in_turn before after taken taken_after spec budget limit s (faults.LimitTooSmall v n) specified (inr some) = inl some.here
taken_in_turn before after taken taken_after spec budget limit s (faults.BudgetTooSmall n) specified (inr some) = inl some.here

-- a refusal for a cause, where the disk tells its files, comes before any words are taken
untaken_at : (before after : Option Files) (taken taken_after : List (ℕ × ℕ)) (budget limit : ℕ) (s : Specification) (f : SpillFault) → IsLeft before after taken taken_after s budget limit f → (IsFreeFault f → ⊥)
    → ForSome before (λ _. taken_after ≡ taken)
untaken_at before after taken taken_after budget limit s f (inl same) free = λ files is. same.1
untaken_at before after taken taken_after budget limit s faults.Disk (inr some) free = absurd (free tt)
untaken_at before after taken taken_after budget limit s faults.Memory (inr some) free = absurd (free tt)
untaken_at before after taken taken_after budget limit s (faults.Array name u) (inr some) free = some.here.3
untaken_at before after taken taken_after budget limit s faults.TooManyTensors (inr some) free = λ files is. some.here.1
untaken_at before after taken taken_after budget limit s (faults.LimitTooSmall v n) (inr some) free = λ files is. some.here.1
untaken_at before after taken taken_after budget limit s (faults.BudgetTooSmall n) (inr some) free = λ files is. some.here.1

pub spill_room : (before middle after : Option Files) (taken taken_after : List (ℕ × ℕ)) (spec : List ℕ) (budget limit : ℕ) (s : Specification) (a : Refusal) → middle ≡ before
    → ForSome before (λ files. HasSpecification files spec s) → IsPieceFault middle after taken taken_after s budget limit a → IsSpillRoomLeft a before after taken taken_after spec budget limit
spill_room before middle after taken taken_after spec budget limit s a same specified left =
    let here = subst (λ (o : Option Files). IsLeft o after taken taken_after s budget limit left.fault) same left.left in
    record {
      takings = taken_in_turn before after taken taken_after spec budget limit s left.fault specified here;
      untaken = λ free. untaken_at before after taken taken_after budget limit s left.fault here (λ fault. free (told_free left.fault a left.told fault));
    }

pub same_room : (a : Refusal) (before after : Option Files) (spec : List ℕ) (budget limit : ℕ) (taken taken_after : List (ℕ × ℕ)) → after ≡ before → taken_after ≡ taken
    → IsSpillRoomLeft a before after taken taken_after spec budget limit
same_room a before after spec budget limit taken taken_after files same = record { takings = inl (files, same); untaken = λ free told is. same }

pub spill_others : (before middle after : Option Files) (spec : List ℕ) (limit : ℕ) (s : Specification) → middle ≡ before → ForSome before (λ files. HasSpecification files spec s) → OnlyFilesOfPiecesDiffer middle after s limit
    → OnlyPiecesDiffer spec limit before after
spill_others before middle after spec limit s same specified (inl stay) = inl (stay ∙ same)
spill_others before middle after spec limit s same specified (inr stay) =
    inr (record {
      specification = s;
      specified = specified;
      others_are = subst (λ (o : Option Files). WithCuts s limit (λ cut. OnlyResultsDiffer (pieces_of s cut) o after)) same stay;
    })

pub spill_ran : (before middle after : Option Files) (taken taken_after : List (ℕ × ℕ)) (spec : List ℕ) (budget limit : ℕ) (s : Specification) (report : List ℕ) → middle ≡ before
    → ForSome before (λ files. HasSpecification files spec s) → ArePiecesRun middle after taken taken_after s budget limit report → IsSpillRun before after taken taken_after spec budget limit report
spill_ran before middle after taken taken_after spec budget limit s report same specified are = record {
  specification = s;
  specified = specified;
  able = λ files told. are.able files (same ∙ told);
  run = subst (λ (o : Option Files). HasSpilled o after taken taken_after s budget limit report) same are.run;
  within = within_each (pieces_of s are.run.cut) budget;
}
