-- What the command leaves that runs several formulas, by what their runs leave.
use Rattle.std.proofs.Common.{◌≡◌, ◌⊎◌, ℕ, ◌+◌, ◌-◌, ◌≤◌, List, All, get_or, length, take, Option, Some, None, inl, inr, refl, sym, subst, ap, ◌∙◌, arith}
use Rattle.std.specs.Prelude.{slice_get}
use Rattle.std.specs.Option.{ForSome, option_map}
use Rattle.std.proofs.lemmas.Option.{slice_get_within}
use Rattle.tce_outside.specs.Files.{Files}
use Rattle.tce_spec.specs.Declarations.{Declarations}
use Rattle.tce_spec.specs.Specification.{Specification}
use Rattle.tce_job.specs.Takings.{tile_take}
use Rattle.tce_job.specs.declared.fault.JobFault.{JobFault}
use Rattle.tce_job.specs.declared.fault.JobFault.TheVariants as faults
use Rattle.tce_job.specs.Refusals.{IsFree as IsFreeFault}
use Rattle.tce_batch.specs.declared.fault.BatchFault.{BatchFault}
use Rattle.tce_job.specs.Several.{files_after, HasTakenEach, OnlyResultsDiffer}
use Rattle.tce_batch.specs.BatchCode.{AreOver}
use Rattle.tce_batch.specs.Refusals.{IsAt, IsOneOf, IsCauseAt}
use Rattle.tce_batch.specs.Left.{IsLeftAt}
use Rattle.tce_command.specs.Refusals.{IsFree}
use Rattle.tce_command.specs.declared.refusal.Refusal.{Refusal}
use Rattle.tce_command.specs.declared.refusal.Refusal.TheVariants.{Disk, Memory}
use Rattle.tce_run.specs.BatchSource.{HasBatch}
use Rattle.tce_run.specs.Told.{IsOfFiles, IsToldAs, IsToldOver, NamesOneOf}
use Rattle.tce_run.specs.BatchDone.{IsBatchLeft, IsBatchPrefix, IsBatchRoomLeft, IsBatchRun, OnlyBatchDiffers}
use Rattle.tce_run.specs.BatchOfFormulas.{AreRun, IsFormulaFault}
use Rattle.tce_run.specs.BatchRefusals.{IsBatchRefusalOn, IsToldAt}
use Rattle.tce_batch.proofs.Afforded.{some_at}
use Rattle.tce_batch.proofs.Ended.{at_all}
use Rattle.tce_run.proofs.May.{untold_at}
use Rattle.tce_run.proofs.Ran.{within}
use Rattle.tce_run.proofs.Told.{told_disk, disk_told, told_free}

-- A fault names a formula.

pub names_one : (told : Option Files) (formulas : List Specification) (budget formula : ℕ) (f : JobFault) → IsCauseAt told formulas budget formula f → IsOneOf formulas formula
names_one told formulas budget formula (faults.BudgetTooSmall n) why = let w = slice_get_within formulas why.number why.specification why.at in record { some = omega (arith, why.counted); within = omega (arith, why.counted, w) }
names_one told formulas budget formula (faults.IntermediatesTooLarge n) why =
    let w = slice_get_within formulas why.number why.specification why.at in record { some = omega (arith, why.counted); within = omega (arith, why.counted, w) }
names_one told formulas budget formula (faults.Array t u) why = let w = slice_get_within formulas why.number why.specification why.at in record { some = omega (arith, why.counted); within = omega (arith, why.counted, w) }
names_one told formulas budget formula faults.Disk why = why
names_one told formulas budget formula faults.Memory why = why

-- an operand that the fault names is declared, also where all formulas are over the same declarations
pub names_tensor : (told : Option Files) (formulas : List Specification) (budget formula : ℕ) (d : Declarations) (f : JobFault) → AreOver d formulas → IsCauseAt told formulas budget formula f → NamesOneOf d f
names_tensor told formulas budget formula d (faults.BudgetTooSmall n) over why = tt
names_tensor told formulas budget formula d (faults.IntermediatesTooLarge n) over why = tt
names_tensor told formulas budget formula d (faults.Array t u) over why =
    let same : why.specification.declarations ≡ d = at_all (λ (x : Specification). x.declarations ≡ d) formulas why.number why.specification over why.at in
    subst (λ (x : Declarations). NamesOneOf x (faults.Array t u)) same why.here.2
names_tensor told formulas budget formula d faults.Disk over why = tt
names_tensor told formulas budget formula d faults.Memory over why = tt

-- what tells a fault over the declarations tells it by the specification of its formula
pub told_at : (formulas : List Specification) (d : Declarations) (refused : BatchFault) (a : Refusal) → AreOver d formulas → IsOneOf formulas refused.formula → IsToldOver d refused.fault a → IsToldAt formulas refused a
told_at formulas d refused a over one told =
    let (s, at) = some_at formulas (refused.formula - 1) (omega (arith, one.some, one.within)) in
    let same : s.declarations ≡ d = at_all (λ (x : Specification). x.declarations ≡ d) formulas (refused.formula - 1) s over at in
    record {
      number = refused.formula - 1;
      specification = s;
      counted = omega (arith, one.some);
      at = at;
      here = subst (λ (x : Declarations). IsToldOver x refused.fault a) (sym same) told;
    }

pub of_files_at : (told : Option Files) (formulas : List Specification) (budget formula : ℕ) (f : JobFault) → IsCauseAt told formulas budget formula f → IsOfFiles f
of_files_at told formulas budget formula (faults.BudgetTooSmall n) why = tt
of_files_at told formulas budget formula (faults.IntermediatesTooLarge n) why = tt
of_files_at told formulas budget formula (faults.Array t u) why = why.here.1
of_files_at told formulas budget formula faults.Disk why = tt
of_files_at told formulas budget formula faults.Memory why = tt

-- What is told of a fault.

free_told : (formulas : List Specification) (refused : BatchFault) (a : Refusal) → IsToldAt formulas refused a → IsFreeFault refused.fault → IsFree a
free_told formulas refused a told free = told_free told.specification refused.fault a told.here free

pub failed_told : (formulas : List Specification) (refused : BatchFault) (a : Refusal) → IsToldAt formulas refused a → a ≡ Disk → refused.fault ≡ faults.Disk
failed_told formulas refused a told failed = told_disk told.specification refused.fault a told.here failed

-- and what is told as none was none
pub disk_told_at : (formulas : List Specification) (refused : BatchFault) (a : Refusal) → IsToldAt formulas refused a → refused.fault ≡ faults.Disk → a ≡ Disk
disk_told_at formulas refused a told failed = disk_told told.specification refused.fault a told.here failed

pub batch_refused : (before middle after : Option Files) (taken taken_after : List (ℕ × ℕ)) (spec : List ℕ) (budget : ℕ) (formulas : List Specification) (a : Refusal) → middle ≡ before
    → ForSome before (λ files. HasBatch files spec formulas) → IsFormulaFault middle after taken taken_after formulas budget a → IsBatchRefusalOn before spec budget a
batch_refused before middle after taken taken_after spec budget formulas a same specified left = (
  inr (formulas, record { refused = left.refused; told = left.told; cause = untold_at middle formulas budget left.refused.formula left.refused.fault left.cause }),
  λ files is.
      inr (
        formulas,
        specified files is,
        record {
          formula = left.refused.formula;
          fault = left.refused.fault;
          cause = subst (λ (o : Option Files). IsCauseAt o formulas budget left.refused.formula left.refused.fault) (same ∙ is) left.cause;
          told = left.told;
        },
      ),
)

-- What is left.

pub unchanged_left : (before after : Option Files) (spec : List ℕ) (a : Refusal) → after ≡ before → IsBatchLeft a before after spec
unchanged_left before after spec Disk same = inl same
unchanged_left before after spec Memory same = inl same
unchanged_left before after spec a same = same

files_left : (before after : Option Files) (taken taken_after : List (ℕ × ℕ)) (spec : List ℕ) (budget : ℕ) (formulas : List Specification) (formula : ℕ) (f : JobFault) (a : Refusal)
    → ForSome before (λ files. HasBatch files spec formulas) → IsAt formulas formula (λ number s. IsToldAs s f a)
    → IsLeftAt before after taken taken_after formulas budget formula f → IsBatchLeft a before after spec
files_left before after taken taken_after spec budget formulas formula (faults.BudgetTooSmall n) a specified told left = unchanged_left before after spec a left.0
files_left before after taken taken_after spec budget formulas formula (faults.IntermediatesTooLarge n) a specified told left = unchanged_left before after spec a left.0
files_left before after taken taken_after spec budget formulas formula (faults.Array t u) a specified told left = unchanged_left before after spec a left.0
files_left before after taken taken_after spec budget formulas formula faults.Disk a specified told left =
    subst (λ r. IsBatchLeft r before after spec) (sym told.here)
    (inr (record { formulas = formulas; specified = specified; number = left.number; formula = left.specification; at = left.at; others_are = left.here.0.others_are; no_half = left.here.0.no_half }))
files_left before after taken taken_after spec budget formulas formula faults.Memory a specified told left =
    let w = slice_get_within formulas left.number left.specification left.at in
    subst (λ r. IsBatchLeft r before after spec) (sym told.here)
    (inr (elim left.here [
      | inl is ↦ record { formulas = formulas; specified = specified; count = left.number; within = omega (arith, w); files_are = is.0 }
      | inr is ↦ record { formulas = formulas; specified = specified; count = left.number + 1; within = omega (arith, w); files_are = is.0 }
    ]))

pub batch_left : (before middle after : Option Files) (taken taken_after : List (ℕ × ℕ)) (spec : List ℕ) (budget : ℕ) (formulas : List Specification) (a : Refusal) → middle ≡ before
    → ForSome before (λ files. HasBatch files spec formulas) → IsFormulaFault middle after taken taken_after formulas budget a → IsBatchLeft a before after spec
batch_left before middle after taken taken_after spec budget formulas a same specified left =
    files_left before after taken taken_after spec budget formulas left.refused.formula left.refused.fault a specified left.told
    (subst (λ (o : Option Files). IsLeftAt o after taken taken_after formulas budget left.refused.formula left.refused.fault) same left.left)

-- where the disk tells its files, nothing was taken for an operand that is refused
untold_taken : (before after : Option Files) (taken taken_after : List (ℕ × ℕ)) (spec : List ℕ) (budget : ℕ) (formulas : List Specification) (number : ℕ) → number ≤ length formulas
    → ForSome before (λ files. HasBatch files spec formulas) → after ≡ before → ForSome before (λ _. taken_after ≡ taken) → (taken_after ≡ taken) ⊎ HasTakenEach (take number formulas) budget taken taken_after
    → ((after ≡ before) × (taken_after ≡ taken)) ⊎ IsBatchPrefix before after taken taken_after spec budget
untold_taken before after taken taken_after spec budget formulas number within specified same untaken (inl kept) = inl (same, kept)
untold_taken (Some files) after taken taken_after spec budget formulas number within specified same untaken (inr some) = inl (same, untaken files refl)
untold_taken None after taken taken_after spec budget formulas number within specified same untaken (inr some) =
    inr (record { formulas = formulas; specified = specified; run = record { count = number; within = within; files_are = inl same; takings = inl some } })

taken_in_turn : (before after : Option Files) (taken taken_after : List (ℕ × ℕ)) (spec : List ℕ) (budget : ℕ) (formulas : List Specification) (formula : ℕ) (f : JobFault)
    → ForSome before (λ files. HasBatch files spec formulas) → IsLeftAt before after taken taken_after formulas budget formula f
    → ((after ≡ before) × (taken_after ≡ taken)) ⊎ IsBatchPrefix before after taken taken_after spec budget
taken_in_turn before after taken taken_after spec budget formulas formula (faults.BudgetTooSmall n) specified left = inl left
taken_in_turn before after taken taken_after spec budget formulas formula (faults.IntermediatesTooLarge n) specified left = inl left
taken_in_turn before after taken taken_after spec budget formulas formula (faults.Array t u) specified left =
    let w = slice_get_within formulas left.2.number left.2.specification left.2.at in
    untold_taken before after taken taken_after spec budget formulas left.2.number (omega (arith, w)) specified left.0 left.1 left.2.here
taken_in_turn before after taken taken_after spec budget formulas formula faults.Disk specified left =
    let w = slice_get_within formulas left.number left.specification left.at in
    inr (record {
      formulas = formulas;
      specified = specified;
      run = record { count = left.number; within = omega (arith, w); files_are = inr (left.specification, left.at, left.here.0); takings = left.here.1 };
    })
taken_in_turn before after taken taken_after spec budget formulas formula faults.Memory specified left =
    let w = slice_get_within formulas left.number left.specification left.at in
    elim left.here [
      | inl is ↦ inr (record { formulas = formulas; specified = specified; run = record { count = left.number; within = omega (arith, w); files_are = inl is.0; takings = is.1 } })
      | inr is ↦ inr (record { formulas = formulas; specified = specified; run = record { count = left.number + 1; within = omega (arith, w); files_are = inl is.0; takings = inl is.1 } })
    ]

-- a refusal for a cause, where the disk tells its files, comes before any words are taken
untaken_at : (before after : Option Files) (taken taken_after : List (ℕ × ℕ)) (budget : ℕ) (formulas : List Specification) (formula : ℕ) (f : JobFault) → IsLeftAt before after taken taken_after formulas budget formula f
    → (IsFreeFault f → ⊥) → ForSome before (λ _. taken_after ≡ taken)
untaken_at before after taken taken_after budget formulas formula (faults.BudgetTooSmall n) left free = λ files is. left.1
untaken_at before after taken taken_after budget formulas formula (faults.IntermediatesTooLarge n) left free = λ files is. left.1
untaken_at before after taken taken_after budget formulas formula (faults.Array t u) left free = left.1
untaken_at before after taken taken_after budget formulas formula faults.Disk left free = absurd (free tt)
untaken_at before after taken taken_after budget formulas formula faults.Memory left free = absurd (free tt)

pub batch_room : (before middle after : Option Files) (taken taken_after : List (ℕ × ℕ)) (spec : List ℕ) (budget : ℕ) (formulas : List Specification) (a : Refusal) → middle ≡ before
    → ForSome before (λ files. HasBatch files spec formulas) → IsFormulaFault middle after taken taken_after formulas budget a → IsBatchRoomLeft a before after taken taken_after spec budget
batch_room before middle after taken taken_after spec budget formulas a same specified left =
    let here = subst (λ (o : Option Files). IsLeftAt o after taken taken_after formulas budget left.refused.formula left.refused.fault) same left.left in
    record {
      takings = taken_in_turn before after taken taken_after spec budget formulas left.refused.formula left.refused.fault specified here;
      untaken = λ free. untaken_at before after taken taken_after budget formulas left.refused.formula left.refused.fault here (λ fault. free (free_told formulas left.refused a left.told fault));
    }

pub same_room : (a : Refusal) (before after : Option Files) (spec : List ℕ) (budget : ℕ) (taken taken_after : List (ℕ × ℕ)) → after ≡ before → taken_after ≡ taken
    → IsBatchRoomLeft a before after taken taken_after spec budget
same_room a before after spec budget taken taken_after files same = record { takings = inl (files, same); untaken = λ free told is. same }

pub batch_others : (before middle after : Option Files) (spec : List ℕ) (formulas : List Specification) → middle ≡ before → ForSome before (λ files. HasBatch files spec formulas) → OnlyResultsDiffer formulas middle after
    → OnlyBatchDiffers spec before after
batch_others before middle after spec formulas same specified stay =
    inr (record { formulas = formulas; specified = specified; others_are = subst (λ (o : Option Files). OnlyResultsDiffer formulas o after) same stay })

pub within_each : (formulas : List Specification) (budget : ℕ) → All (λ (s : Specification). tile_take s budget ≤ budget) formulas
within_each formulas budget = λ k d less. within (get_or formulas k d) budget

pub batch_ran : (before middle after : Option Files) (taken taken_after : List (ℕ × ℕ)) (spec : List ℕ) (budget : ℕ) (formulas : List Specification) (report : List ℕ) → middle ≡ before
    → ForSome before (λ files. HasBatch files spec formulas) → AreRun middle after taken taken_after formulas budget report → IsBatchRun before after taken taken_after spec budget report
batch_ran before middle after taken taken_after spec budget formulas report same specified are = record {
  formulas = formulas;
  specified = specified;
  able = λ files told. record { affordable = are.affordable; sources = are.sources files (same ∙ told) };
  written = are.written ∙ ap (option_map (files_after formulas)) same;
  within = within_each formulas budget;
  run = are.run;
}
