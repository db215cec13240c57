-- What a run works on as the code holds it: an evaluation, and the storage of its words. `files` says what a disk tells.
use Rattle.std.specs.Prelude.{◌≡◌, ℕ, Option}
use Rattle.std.specs.Option.{ForSome}
use Rattle.tce_outside.specs.Fault.{FaultReported}
use Rattle.tce_outside.specs.Files.{Files}
use Rattle.tce_code.specs.Execution.{Setting, State}
use Rattle.tce_exec.specs.Workspace.{Workspace, workspace, setting_in, state_in}
use Rattle.tce_exec.specs.Steps.{IsKept, IsRead, IsChanged}
use Rattle.tce_exec.specs.declared.evaluation.Evaluation.{Evaluation}
use Rattle.tce_exec.specs.declared.storage.Storage.{Storage}

abbrev pub work_of : {D : Type 0} → (D → Option Files) → Evaluation → Storage D → Workspace
work_of files e s = workspace e s.words.now s.cache.now (files s.disk.now)

abbrev pub setting_of : {D : Type 0} → (D → Option Files) → Evaluation → Storage D → Setting
setting_of files e s = setting_in (work_of files e s)

-- of the setting and the state, where the disk tells its files
abbrev pub ForState : {D : Type 0} → (D → Option Files) → Evaluation → Storage D → (Setting → State → Type 0) → Type 0
ForState files e s P = ForSome (state_in (work_of files e s)) (P (setting_of files e s))

-- the words, the cache and the disk are the same ones, whatever they hold
abbrev pub IsSame : {D : Type 0} → Storage D → Storage D → Type 0
IsSame before after =
    (after.words.ghost_name ≡ before.words.ghost_name) × (after.cache.ghost_name ≡ before.cache.ghost_name) × (after.disk.ghost_name ≡ before.disk.ghost_name)

-- what calls leave, from one storage to another
abbrev pub Keeps : {D : Type 0} → (D → Option Files) → Evaluation → Storage D → Storage D → Type 0
Keeps files e before after = IsKept (work_of files e before) (work_of files e after)

abbrev pub Reads : {D : Type 0} → ℕ → (D → Option Files) → Evaluation → Storage D → Storage D → Type 0
Reads touches files e before after = IsRead touches (work_of files e before) (work_of files e after)

abbrev pub Changes : {D : Type 0} → (State → State) → ℕ → (D → Option Files) → Evaluation → Storage D → Storage D → Type 0
Changes change touches files e before after = IsChanged change touches (work_of files e before) (work_of files e after)

-- what a call says of the faults of the disk, whose count is `faults`
abbrev pub ReportsFaults : {D : Type 0} → (D → ℕ) → Storage D → Storage D → Type 0 → Type 0
ReportsFaults faults before after failed = FaultReported faults before.disk.now after.disk.now failed

-- what a call leaves of a storage, also where it fails
pub record Upholds {D : Type 0} (files : D → Option Files) (faults : D → ℕ) (e : Evaluation) (before after : Storage D) (failed : Type 0) : Type 0 where
  pub kept : Keeps files e before after
  pub same : IsSame before after
  pub fault_reported : ReportsFaults faults before after failed
