-- What the refusal that tells a fault of a run says of the command.
use Rattle.std.proofs.Common.{◌≡◌, ◌≢◌, ℕ, ◌⊎◌, List, Option, Result, Ok, Err, inl, inr, refl, sym, ap, ◌∙◌, subst}
use Rattle.std.specs.Option.{ForSome}
use Rattle.tce_outside.specs.Files.{Files}
use Rattle.tce_array.specs.declared.fault.ArrayFault.{ArrayFault}
use Rattle.tce_array.specs.declared.fault.ArrayFault.TheVariants as array_fault
use Rattle.tce_spec.specs.Specification.{Specification}
use Rattle.tce_job.specs.declared.opening.Refused.{Refused}
use Rattle.tce_job.specs.Opened.{IsRefused}
use Rattle.tce_job.specs.declared.fault.JobFault.{JobFault}
use Rattle.tce_job.specs.declared.fault.JobFault.TheVariants as faults
use Rattle.tce_job.specs.Refusals.{IsCause, CanRun, IsFree as IsFreeFault, NamesDeclared}
use Rattle.tce_job.specs.Prepared.{IsRoomLeft as JobRoomLeft, HasTaken}
use Rattle.tce_command.specs.declared.refusal.Refusal.{Refusal}
use Rattle.tce_command.specs.declared.refusal.Refusal.TheVariants.{Missing, Array, Disk, Memory}
use Rattle.tce_command.specs.Refusals.{IsFree}
use Rattle.tce_command.specs.Source.{HasSpecification}
use Rattle.tce_run.specs.Refusals.{IsFirstRefused, IsJobRefusal}
use Rattle.tce_run.specs.Done.{IsTaking, IsRoomLeft}
use Rattle.tce_run.specs.Told.{TellsOperand, IsOfFiles, IsToldAs, NamesOneOf}

told_operand : (files : Files) (s : Specification) (budget t : ℕ) (fault : ArrayFault) (a : Refusal) → TellsOperand s t fault a → IsFirstRefused files s budget t fault → fault ≢ array_fault.Disk → IsJobRefusal files s budget a
told_operand files s budget t array_fault.NoFile (Missing name) told first real = (t, first, told)
told_operand files s budget t (array_fault.BadLength n) (Array name trouble) told first real = (t, subst (IsFirstRefused files s budget t) (sym told.1) first, told.0)
told_operand files s budget t (array_fault.BadHeader n) (Array name trouble) told first real = (t, subst (IsFirstRefused files s budget t) (sym told.1) first, told.0)
told_operand files s budget t array_fault.Disk a told first real = absurd (real refl)
told_operand files s budget t fault a told first real = absurd told

-- a fault that names a declared tensor of a specification names one of its declarations
pub declared_over : (s : Specification) (f : JobFault) → NamesDeclared s f → NamesOneOf s.declarations f
declared_over s (faults.BudgetTooSmall n) h = tt
declared_over s (faults.IntermediatesTooLarge n) h = tt
declared_over s (faults.Array t fault) h = h
declared_over s faults.Disk h = tt
declared_over s faults.Memory h = tt

-- it is due where the fault has a cause
pub told_cause : (files : Files) (s : Specification) (budget : ℕ) (f : JobFault) (a : Refusal) → IsToldAs s f a → IsCause (IsRefused files s) s budget f → IsJobRefusal files s budget a
told_cause files s budget (faults.BudgetTooSmall n) a told p = subst (IsJobRefusal files s budget) (sym told) p
told_cause files s budget (faults.IntermediatesTooLarge n) a told p = subst (IsJobRefusal files s budget) (sym told) p
told_cause files s budget (faults.Array t fault) a told p = told_operand files s budget t fault a told (record { affordable = p.0; refused = p.1 }) p.2
told_cause files s budget faults.Disk a told p = subst (IsJobRefusal files s budget) (sym told) tt
told_cause files s budget faults.Memory a told p = subst (IsJobRefusal files s budget) (sym told) tt

-- an operand is refused for its file
pub of_files : (P : Refused → Type 0) (s : Specification) (budget : ℕ) (f : JobFault) → IsCause P s budget f → IsOfFiles f
of_files P s budget (faults.BudgetTooSmall n) p = tt
of_files P s budget (faults.IntermediatesTooLarge n) p = tt
of_files P s budget (faults.Array t fault) p = p.2
of_files P s budget faults.Disk p = tt
of_files P s budget faults.Memory p = tt

-- it is that of a failure only where the disk failed
operand_not_disk : (s : Specification) (t : ℕ) (fault : ArrayFault) → TellsOperand s t fault Disk → ⊥
operand_not_disk s t array_fault.NoFile told = told
operand_not_disk s t fault told = told

pub told_disk : (s : Specification) (f : JobFault) (a : Refusal) → IsToldAs s f a → a ≡ Disk → f ≡ faults.Disk
told_disk s (faults.BudgetTooSmall n) a told failed = absurd (cc)
told_disk s (faults.IntermediatesTooLarge n) a told failed = absurd (cc)
told_disk s (faults.Array t fault) a told failed = absurd (operand_not_disk s t fault (subst (TellsOperand s t fault) failed told))
told_disk s faults.Disk a told failed = refl
told_disk s faults.Memory a told failed = absurd (cc)

-- the refusal of an answer
abbrev pub refusal_in : {A : Type 0} → Result A Refusal → Refusal
refusal_in (Ok answer) = Memory
refusal_in (Err refusal) = refusal

pub told_failure : {A B : Type 0} (s : Specification) (f : JobFault) (a : Refusal) (given : Result A JobFault) (told : Result B Refusal) → given ≡ Err f → told ≡ Err a → IsToldAs s f a → told ≡ Err Disk → given ≡ Err faults.Disk
told_failure s f a given told is was says failed = is ∙ ap Err (told_disk s f a says (sym (ap refusal_in was) ∙ ap refusal_in failed))

-- and what is told as none was none
pub disk_told : (s : Specification) (f : JobFault) (a : Refusal) → IsToldAs s f a → f ≡ faults.Disk → a ≡ Disk
disk_told s f a says failed = subst (λ g. IsToldAs s g a) failed says

pub told_no_failure : {A B : Type 0} (s : Specification) (f : JobFault) (a : Refusal) (given : Result A JobFault) (told : Result B Refusal) → given ≡ Err f → told ≡ Err a → IsToldAs s f a
    → (told ≡ Err Disk → ⊥) → given ≡ Err faults.Disk → ⊥
told_no_failure s f a given told is was says none failed =
    let same : Err f ≡ Err faults.Disk = sym is ∙ failed in
    let fault : f ≡ faults.Disk = cc in
    none (was ∙ ap Err (disk_told s f a says fault))

-- an answer is no failure
pub answered : {A Q : Type 0} (answer : A) (told : Result A Refusal) → told ≡ Ok answer → told ≡ Err Disk → Q
answered answer told is failed = absurd (cc)

-- and where it failed the refusal is that of a failure
pub unchanged : (before middle after : Option Files) (s : Specification) (f : JobFault) (a : Refusal) → middle ≡ before → IsToldAs s f a → (f ≡ faults.Disk) ⊎ (after ≡ middle) → (a ≡ Disk) ⊎ (after ≡ before)
unchanged before middle after s f a same told (inl failed) = inl (subst (λ g. IsToldAs s g a) failed told)
unchanged before middle after s f a same told (inr stay) = inr (stay ∙ same)

-- what the run leaves of the room, the command leaves; words were taken only where the run could be run
one_taking : (before middle : Option Files) (s : Specification) (spec : List ℕ) (budget : ℕ) (taken after : List (ℕ × ℕ)) → middle ≡ before → ForSome before (λ files. HasSpecification files spec s)
    → (after ≡ taken) ⊎ ForSome middle (λ files. CanRun files s budget) → (after ≡ taken) ⊎ HasTaken s budget taken after → (after ≡ taken) ⊎ IsTaking before taken after spec budget
one_taking before middle s spec budget taken after same specified (inl still) left = inl still
one_taking before middle s spec budget taken after same specified (inr able) (inl still) = inl still
one_taking before middle s spec budget taken after same specified (inr able) (inr more) =
    inr (record { specification = s; specified = specified; able = λ files told. able files (same ∙ told); plan = more.plan; least = more.least; taking = more.taken })

operand_room : (before : Option Files) (s : Specification) (spec : List ℕ) (budget t : ℕ) (fault : ArrayFault) (a : Refusal) (taken after : List (ℕ × ℕ)) → TellsOperand s t fault a → after ≡ taken
    → IsRoomLeft a before taken after spec budget
operand_room before s spec budget t array_fault.NoFile (Missing name) taken after told same = same
operand_room before s spec budget t (array_fault.BadLength n) (Array name trouble) taken after told same = same
operand_room before s spec budget t (array_fault.BadHeader n) (Array name trouble) taken after told same = same
operand_room before s spec budget t array_fault.Disk (Array name trouble) taken after told same = same
operand_room before s spec budget t fault a taken after told same = absurd told

pub told_room : (before middle : Option Files) (s : Specification) (spec : List ℕ) (budget : ℕ) (f : JobFault) (a : Refusal) (taken after : List (ℕ × ℕ)) → middle ≡ before
    → ForSome before (λ files. HasSpecification files spec s) → IsToldAs s f a → (after ≡ taken) ⊎ ForSome middle (λ files. CanRun files s budget) → JobRoomLeft f s budget taken after
    → IsRoomLeft a before taken after spec budget
told_room before middle s spec budget (faults.BudgetTooSmall n) a taken after same specified told tested p = subst (λ b. IsRoomLeft b before taken after spec budget) (sym told) p
told_room before middle s spec budget (faults.IntermediatesTooLarge n) a taken after same specified told tested p = subst (λ b. IsRoomLeft b before taken after spec budget) (sym told) p
told_room before middle s spec budget (faults.Array t fault) a taken after same specified told tested p = operand_room before s spec budget t fault a taken after told p
told_room before middle s spec budget faults.Disk a taken after same specified told tested p =
    subst (λ b. IsRoomLeft b before taken after spec budget) (sym told) (one_taking before middle s spec budget taken after same specified tested p)
told_room before middle s spec budget faults.Memory a taken after same specified told tested p =
    subst (λ b. IsRoomLeft b before taken after spec budget) (sym told) (one_taking before middle s spec budget taken after same specified tested p)

-- what tells a free fault is free
pub told_free : (s : Specification) (f : JobFault) (a : Refusal) → IsToldAs s f a → IsFreeFault f → IsFree a
told_free s (faults.BudgetTooSmall n) a told free = absurd free
told_free s (faults.IntermediatesTooLarge n) a told free = absurd free
told_free s (faults.Array t fault) a told free = absurd free
told_free s faults.Disk a told free = subst IsFree (sym told) tt
told_free s faults.Memory a told free = subst IsFree (sym told) tt
