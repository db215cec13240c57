-- Why a run is refused, by the first cause in order: the budget, the memory for intermediates, the first operand that is refused.
use Rattle.std.specs.Prelude.{◌≡◌, ◌≢◌, ◌⊎◌, ⊤, ℕ, ◌<◌, ◌≤◌, List, Option, Result, length}
use Rattle.std.specs.declared.result.Result.TheVariants.{Ok, Err}
use Rattle.std.specs.Option.{ForSome, IsSomeAnd}
use Rattle.tce_space.specs.Limits.{max_memory}
use Rattle.tce_outside.specs.Files.{Files}
use Rattle.tce_array.specs.declared.fault.ArrayFault.TheVariants as array_fault
use Rattle.tce_tree.specs.Memory.{memory}
use Rattle.tce_fusion.specs.Least.{IsLeast}
use Rattle.tce_spec.specs.Specification.{Specification}
use Rattle.tce_job.specs.Takings.{least_budget}
use Rattle.tce_job.specs.declared.opening.Refused.{Refused}
use Rattle.tce_job.specs.Opened.{HasOperands, operand_count, IsRefused}
use Rattle.tce_job.specs.declared.fault.JobFault.{JobFault}
use Rattle.tce_job.specs.declared.fault.JobFault.TheVariants.{BudgetTooSmall, IntermediatesTooLarge, Array, Disk, Memory}

-- no legal fusion of the tree has less memory than a fusion with this
pub record IsLeastMemory (s : Specification) (n : ℕ) : Type 0 where
  pub fusion : List ℕ
  pub least : IsLeast s.declarations.space s.tree fusion
  pub is : n ≡ memory s.declarations.space s.tree fusion

-- the budget is enough for three of the largest tiles, and the least memory is within the limit
pub record IsAffordable (s : Specification) (budget : ℕ) : Type 0 where
  pub enough : least_budget s ≤ budget
  pub small : (n : ℕ) → IsLeastMemory s n → n ≤ max_memory

-- why a run is refused, where `refused` says which operand is refused, and why. The disk may fail, and memory be wanting, at any place
abbrev pub IsCause : (Refused → Type 0) → Specification → ℕ → JobFault → Type 0
IsCause refused s budget (BudgetTooSmall n) = (n ≡ least_budget s) × (budget < n)
IsCause refused s budget (IntermediatesTooLarge n) = (least_budget s ≤ budget) × IsLeastMemory s n × (max_memory < n)
IsCause refused s budget (Array t fault) = IsAffordable s budget × refused (record { tensor = t; fault = fault }) × (fault ≢ array_fault.Disk)
IsCause refused s budget Disk = ⊤
IsCause refused s budget Memory = ⊤

-- the same, where the disk tells its files; where it tells nothing, any declared tensor may be refused, and none is known to be
abbrev pub MayBeRefused : Option Files → Specification → Refused → Type 0
MayBeRefused told s refused = (refused.tensor < length s.declarations.tensors) × ForSome told (λ files. IsRefused files s refused)

abbrev pub MustBeRefused : Option Files → Specification → Refused → Type 0
MustBeRefused told s refused = IsSomeAnd told (λ files. IsRefused files s refused)

-- a tensor that the fault names is declared
abbrev pub NamesDeclared : Specification → JobFault → Type 0
NamesDeclared s (BudgetTooSmall n) = ⊤
NamesDeclared s (IntermediatesTooLarge n) = ⊤
NamesDeclared s (Array t fault) = t < length s.declarations.tensors
NamesDeclared s Disk = ⊤
NamesDeclared s Memory = ⊤

-- all that a run needs is there
pub record CanRun (files : Files) (s : Specification) (budget : ℕ) : Type 0 where
  pub affordable : IsAffordable s budget
  pub operands : HasOperands files s (operand_count s)

-- want of memory and failures of the disk may come anywhere
abbrev pub IsFree : JobFault → Type 0
IsFree (BudgetTooSmall n) = ⊥
IsFree (IntermediatesTooLarge n) = ⊥
IsFree (Array t fault) = ⊥
IsFree Disk = ⊤
IsFree Memory = ⊤

-- the answer is this fault, or a free one
abbrev pub IsRefusedAs : {A : Type 0} → JobFault → Result A JobFault → Type 0
IsRefusedAs due (Ok answer) = ⊥
IsRefusedAs due (Err fault) = (fault ≡ due) ⊎ IsFree fault

-- the answer is no refusal but a free one
abbrev pub IsGranted : {A : Type 0} → Result A JobFault → Type 0
IsGranted (Ok answer) = ⊤
IsGranted (Err fault) = IsFree fault

-- the fault of a run for an operand that is refused: a failure of the disk is none of the operand
pub record IsFaultOf (refused : Refused) (fault : JobFault) : Type 0 where
  pub disk : refused.fault ≡ array_fault.Disk → fault ≡ Disk
  pub array : refused.fault ≢ array_fault.Disk → fault ≡ Array refused.tensor refused.fault

-- why the operands are not opened
abbrev pub IsOpeningFault : Option Files → Specification → JobFault → Type 0
IsOpeningFault told s (Array t fault) = MayBeRefused told s (record { tensor = t; fault = fault }) × (fault ≢ array_fault.Disk)
IsOpeningFault told s Disk = ⊤
IsOpeningFault told s fault = ⊥
