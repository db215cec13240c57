-- What commands answer that run formulas.
use Rattle.std.proofs.Common.{◌≡◌, refl, ap, ◌⊎◌, inl, inr, ℕ, List, [], Option, Some, None, Result, Err, IfOk, IfErr, rules}
use Rattle.std.specs.Option.{ForSome}
use Rattle.tce_outside.specs.Fault.{HasCause, TellsFaults}
use Rattle.tce_outside.specs.Files.{Files}
use Rattle.tce_outside.proofs.Causes.{answered_quiet}
use Rattle.tce_command.specs.Command.{Command, run, batch, spill, demo}
use Rattle.tce_command.specs.Refusals.{IsFree, SameOrDisk}
use Rattle.tce_command.specs.declared.refusal.Refusal.{Refusal}
use Rattle.tce_command.specs.declared.refusal.Refusal.TheVariants.{Disk, Memory}
use Rattle.tce_command.specs.declared.command_refusal.CommandRefusal.{CommandRefusal}
use Rattle.tce_command.specs.declared.command_refusal.CommandRefusal.TheVariants.{Common}
use Rattle.tce_run.specs.Done.{IsRoomLeft, IsRun, IsTaking, OnlyResultDiffers}
use Rattle.tce_run.specs.Refusals.{IsRunRefusalIfTold}
use Rattle.tce_run.specs.BatchDone.{IsBatchLeft, IsBatchRoomLeft, IsBatchRun, OnlyBatchDiffers}
use Rattle.tce_run.specs.BatchRefusals.{IsBatchRefusalOn}
use Rattle.tce_run.specs.SpillDone.{IsSpillLeft, IsSpillRoomLeft, IsSpillRun, OnlyPiecesDiffer}
use Rattle.tce_run.specs.SpillRefusals.{IsSpillRefusalOn}
use Rattle.tce_run.specs.DemoFiles.{DemoOthersStay, found}
use Rattle.tce_run.specs.DemoDone.{IsDemonstrated, IsDemoRefusal, IsDemoTaking, LeavesDemonstration, LeavesDemoRoom}
use Rattle.tce_top.specs.Performed.{Carries, Seen}
use Rattle.tce_top.proofs.Carried.{Performs, carried, cause_as, of_err, of_ok, told_as}

-- How a call of these fails.
pub record Fails {T : Type 0} (given : Result T Refusal) (before after : Seen) : Type 0 where
  pub cause : HasCause before.faults after.faults (given ≡ Err Disk)
  pub told : TellsFaults before.faults after.faults (given ≡ Err Disk)

-- a refusal is free or is not
free_or_not : (r : Refusal) → IsFree r ⊎ (IsFree r → ⊥)
free_or_not Disk = inl tt
free_or_not Memory = inl tt
free_or_not r = inr (λ free. free)

-- One run.

same_or_disk : (A : Type 0) (r : Refusal) → (r ≡ Disk) ⊎ A → (Common r ≡ Common Disk) ⊎ A
same_or_disk A r (inl disk) = inl (ap Common disk)
same_or_disk A r (inr same) = inr same

run_takes : (r : Refusal) (before : Option Files) (taken taken_after : List (ℕ × ℕ)) (spec : List ℕ) (budget : ℕ) → IsRoomLeft r before taken taken_after spec budget
    → (taken_after ≡ taken) ⊎ IsTaking before taken taken_after spec budget
run_takes Disk before taken taken_after spec budget left = left
run_takes Memory before taken taken_after spec budget left = left
run_takes r before taken taken_after spec budget left = inl left

run_untaken : (r : Refusal) (before : Option Files) (taken taken_after : List (ℕ × ℕ)) (spec : List ℕ) (budget : ℕ) → IsRoomLeft r before taken taken_after spec budget → IsFree r ⊎ (taken_after ≡ taken)
run_untaken Disk before taken taken_after spec budget left = inl tt
run_untaken Memory before taken taken_after spec budget left = inl tt
run_untaken r before taken taken_after spec budget left = inr left

pub runs : {T S : Type 0} (bytes : T → List ℕ) (items : S → List ℕ) (command : Command) (before after : Seen) (given : Result T Refusal) (answer : Result S CommandRefusal) (spec : List ℕ) (budget : ℕ)
    → command ≡ run spec budget → Carries bytes items Common given answer
    → IfOk given (λ report. IsRun before.files after.files before.takings after.takings spec budget (bytes report)) → IfErr given (IsRunRefusalIfTold before.files spec budget)
    → IfErr given (SameOrDisk before.files after.files) → IfErr given (λ r. IsRoomLeft r before.files before.takings after.takings spec budget)
    → OnlyResultDiffers spec before.files after.files → Fails given before after → Performs items command before after answer
runs bytes items command before after given answer spec budget is same done refused unchanged takings others fails =
    carried bytes items Common command (run spec budget) before after given answer is same
    (λ report ok. record {
      done = of_ok _ given report ok done;
      no_half = others;
      others = others;
      faults = answered_quiet before.faults after.faults report given ok fails.told;
    })
    (λ r err.
    let why : IsRunRefusalIfTold before.files spec budget r = of_err _ given r err refused in
    let room : IsRoomLeft r before.files before.takings after.takings spec budget = of_err (λ k. IsRoomLeft k before.files before.takings after.takings spec budget) given r err takings in
    record {
      possible = why.0;
      refused = why.1;
      line = tt;
      unchanged = same_or_disk _ r (of_err _ given r err unchanged);
      left = tt;
      takings = run_takes r _ _ _ spec budget room;
      untaken = run_untaken r _ _ _ spec budget room;
      no_half = others;
      others = others;
      fault_reported = record {
        cause = cause_as given r before.faults after.faults err fails.cause;
        quiet = told_as given r before.faults after.faults err fails.told;
      };
    })

-- Several formulas.

batch_same : (r : Refusal) (before after : Option Files) (spec : List ℕ) → IsBatchLeft r before after spec → IsFree r ⊎ (after ≡ before)
batch_same Disk before after spec left = inl tt
batch_same Memory before after spec left = inl tt
batch_same r before after spec left = inr left

-- takings that are kept unless the refusal is free
untaken_or_free : (A : Type 0) (r : Refusal) → ((IsFree r → ⊥) → A) → IsFree r ⊎ A
untaken_or_free A r kept =
    elim (free_or_not r) [
      | inl free ↦ inl free
      | inr not ↦ inr (kept not)
    ]

pub batches : {T S : Type 0} (bytes : T → List ℕ) (items : S → List ℕ) (command : Command) (before after : Seen) (given : Result T Refusal) (answer : Result S CommandRefusal) (spec : List ℕ) (budget : ℕ)
    → command ≡ batch spec budget → Carries bytes items Common given answer
    → IfOk given (λ report. IsBatchRun before.files after.files before.takings after.takings spec budget (bytes report))
    → IfErr given (IsBatchRefusalOn before.files spec budget) → IfErr given (λ r. IsBatchLeft r before.files after.files spec)
    → IfErr given (λ r. IsBatchRoomLeft r before.files after.files before.takings after.takings spec budget) → OnlyBatchDiffers spec before.files after.files → Fails given before after
    → Performs items command before after answer
batches bytes items command before after given answer spec budget is same done refused left takings others fails =
    carried bytes items Common command (batch spec budget) before after given answer is same
    (λ report ok. record {
      done = of_ok _ given report ok done;
      no_half = tt;
      others = others;
      faults = answered_quiet before.faults after.faults report given ok fails.told;
    })
    (λ r err.
    let why : IsBatchRefusalOn before.files spec budget r = of_err _ given r err refused in
    let files_left : IsBatchLeft r before.files after.files spec = of_err (λ k. IsBatchLeft k before.files after.files spec) given r err left in
    let room : IsBatchRoomLeft r before.files after.files before.takings after.takings spec budget = of_err (λ k. IsBatchRoomLeft k before.files after.files before.takings after.takings spec budget) given r err takings in
    record {
      possible = why.0;
      refused = why.1;
      line = tt;
      unchanged = batch_same r before.files after.files spec files_left;
      left = files_left;
      takings = room.takings;
      untaken = untaken_or_free _ r room.untaken;
      no_half = tt;
      others = others;
      fault_reported = record {
        cause = cause_as given r before.faults after.faults err fails.cause;
        quiet = told_as given r before.faults after.faults err fails.told;
      };
    })

-- The pieces of a tree.

spill_same : (r : Refusal) (before after : Option Files) (spec : List ℕ) (limit : ℕ) → IsSpillLeft r before after spec limit → IsFree r ⊎ (after ≡ before)
spill_same Disk before after spec limit left = inl tt
spill_same Memory before after spec limit left = inl tt
spill_same r before after spec limit left = inr left

pub spills : {T S : Type 0} (bytes : T → List ℕ) (items : S → List ℕ) (command : Command) (before after : Seen) (given : Result T Refusal) (answer : Result S CommandRefusal) (spec : List ℕ) (budget limit : ℕ)
    → command ≡ spill spec budget limit → Carries bytes items Common given answer
    → IfOk given (λ report. IsSpillRun before.files after.files before.takings after.takings spec budget limit (bytes report))
    → IfErr given (IsSpillRefusalOn before.files spec budget limit) → IfErr given (λ r. IsSpillLeft r before.files after.files spec limit)
    → IfErr given (λ r. IsSpillRoomLeft r before.files after.files before.takings after.takings spec budget limit) → OnlyPiecesDiffer spec limit before.files after.files → Fails given before after
    → Performs items command before after answer
spills bytes items command before after given answer spec budget limit is same done refused left takings others fails =
    carried bytes items Common command (spill spec budget limit) before after given answer is same
    (λ report ok. record {
      done = of_ok _ given report ok done;
      no_half = tt;
      others = others;
      faults = answered_quiet before.faults after.faults report given ok fails.told;
    })
    (λ r err.
    let why : IsSpillRefusalOn before.files spec budget limit r = of_err _ given r err refused in
    let files_left : IsSpillLeft r before.files after.files spec limit = of_err (λ k. IsSpillLeft k before.files after.files spec limit) given r err left in
    let room : IsSpillRoomLeft r before.files after.files before.takings after.takings spec budget limit = of_err (λ k. IsSpillRoomLeft k before.files after.files before.takings after.takings spec budget limit) given r err takings in
    record {
      possible = why.0;
      refused = why.1;
      line = tt;
      unchanged = spill_same r before.files after.files spec limit files_left;
      left = files_left;
      takings = room.takings;
      untaken = untaken_or_free _ r room.untaken;
      no_half = tt;
      others = others;
      fault_reported = record {
        cause = cause_as given r before.faults after.faults err fails.cause;
        quiet = told_as given r before.faults after.faults err fails.told;
      };
    })

-- A demonstration.

-- a disk that told nothing before tells nothing after
untold : (after : Option Files) → found [] after ≡ None → after ≡ None
untold None e = refl
untold (Some files) e = absurd (cc)

-- over a disk that tells its files the refusal is free; over another nothing is seen to change
demo_same : (before after : Option Files) (r : Refusal) → ForSome before (λ files. IsFree r) → DemoOthersStay before after → IsFree r ⊎ (after ≡ before)
demo_same (Some files) after r refused others = inl (refused files refl)
demo_same None after r refused others = inr (untold after (others [] (search rules)))

demo_takes : (v o : ℕ) (taken taken_after : List (ℕ × ℕ)) (r : Refusal) → (IsFree r × IsDemoTaking v o taken taken_after) ⊎ (taken_after ≡ taken) → (taken_after ≡ taken) ⊎ IsDemoTaking v o taken taken_after
demo_takes v o taken taken_after r (inl took) = inr took.1
demo_takes v o taken taken_after r (inr same) = inl same

demo_untaken : (v o : ℕ) (taken taken_after : List (ℕ × ℕ)) (r : Refusal) → (IsFree r × IsDemoTaking v o taken taken_after) ⊎ (taken_after ≡ taken) → IsFree r ⊎ (taken_after ≡ taken)
demo_untaken v o taken taken_after r (inl took) = inl took.0
demo_untaken v o taken taken_after r (inr same) = inr same

pub demonstrates : {T S : Type 0} (bytes : T → List ℕ) (items : S → List ℕ) (command : Command) (before after : Seen) (given : Result T Refusal) (answer : Result S CommandRefusal) (seed v o : ℕ)
    → command ≡ demo seed v o → Carries bytes items Common given answer
    → IfOk given (λ report. IsDemonstrated before.files after.files before.takings after.takings seed v o (bytes report)) → IfErr given (λ r. ForSome before.files (λ files. IsFree r)) → IfErr given (IsDemoRefusal v o)
    → LeavesDemoRoom v o before.takings after.takings given → LeavesDemonstration seed v o before.files after.files → DemoOthersStay before.files after.files → Fails given before after
    → Performs items command before after answer
demonstrates bytes items command before after given answer seed v o is same done refused as_run takings no_half others fails =
    carried bytes items Common command (demo seed v o) before after given answer is same
    (λ report ok. record {
      done = of_ok _ given report ok done;
      no_half = no_half;
      others = others;
      faults = answered_quiet before.faults after.faults report given ok fails.told;
    })
    (λ r err. let room : (IsFree r × IsDemoTaking v o before.takings after.takings) ⊎ (after.takings ≡ before.takings) = of_err (λ k. (IsFree k × IsDemoTaking v o before.takings after.takings) ⊎ (after.takings ≡ before.takings)) given r err takings in record {
      possible = of_err (IsDemoRefusal v o) given r err as_run;
      refused = of_err _ given r err refused;
      line = tt;
      unchanged = demo_same before.files after.files r (of_err (λ k. ForSome before.files (λ files. IsFree k)) given r err refused) others;
      left = tt;
      takings = demo_takes v o before.takings after.takings r room;
      untaken = demo_untaken v o before.takings after.takings r room;
      no_half = no_half;
      others = others;
      fault_reported = record {
        cause = cause_as given r before.faults after.faults err fails.cause;
        quiet = told_as given r before.faults after.faults err fails.told;
      };
    })
