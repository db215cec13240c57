-- Why several formulas are refused: first by the cost of any, then by an operand of any that is no earlier result.
use Rattle.std.specs.Prelude.{◌≡◌, ◌≢◌, ◌⊎◌, ⊤, ℕ, ◌+◌, ◌<◌, ◌≤◌, List, length, eqb, false, Option, Some, IsSomeAnd, Result, slice_get}
use Rattle.std.specs.declared.result.Result.TheVariants.{Ok, Err}
use Rattle.std.specs.List.{list_any}
use Rattle.std.specs.Option.{ForSome}
use Rattle.tce_outside.specs.Files.{Files, file}
use Rattle.tce_array.specs.Faults.{IsFault}
use Rattle.tce_array.specs.declared.fault.ArrayFault.{ArrayFault}
use Rattle.tce_array.specs.declared.fault.ArrayFault.TheVariants as array_fault
use Rattle.tce_spec.specs.Specification.{Specification}
use Rattle.tce_spec.specs.Operands.{shape_of}
use Rattle.tce_job.specs.TensorFiles.{file_of}
use Rattle.tce_job.specs.Opened.{operand, operand_count, HasArray}
use Rattle.tce_job.specs.declared.fault.JobFault.{JobFault}
use Rattle.tce_job.specs.declared.fault.JobFault.TheVariants.{BudgetTooSmall, IntermediatesTooLarge, Array, Disk, Memory}
use Rattle.tce_job.specs.Refusals.{IsAffordable, IsCause, IsFree}
use Rattle.tce_batch.specs.BatchCode.{results_before}
use Rattle.tce_batch.specs.declared.fault.BatchFault.{BatchFault}

-- the number in a fault, from 1, of the formula with this number from 0: before any is run a failure and want of memory are told of the first
abbrev pub IsNamed : ℕ → JobFault → ℕ → Type 0
IsNamed number Disk formula = formula ≡ 1
IsNamed number Memory formula = formula ≡ 1
IsNamed number fault formula = formula ≡ number + 1

-- the first formulas can be afforded, that many of them
abbrev pub AffordableBelow : List Specification → ℕ → ℕ → Type 0
AffordableBelow batch budget count = (number : ℕ) (s : Specification) → number < count → slice_get batch number ≡ Some s → IsAffordable s budget

-- no earlier formula has the tensor as its result
abbrev pub IsSource : List ℕ → ℕ → Type 0
IsSource made t = list_any (eqb t) made ≡ false

-- the files of the first operands that are no earlier results
abbrev pub HasSources : Files → Specification → List ℕ → ℕ → Type 0
HasSources files s made count = (d : ℕ) → d < count → IsSource made (operand s d) → HasArray files s (operand s d)

abbrev pub SourcesBelow : Files → List Specification → ℕ → Type 0
SourcesBelow files batch count = (number : ℕ) (s : Specification) → number < count → slice_get batch number ≡ Some s → HasSources files s (results_before batch number) (operand_count s)

-- the tensor is the first operand that is no earlier result and is refused, with this fault
pub record IsRefusedSource (files : Files) (s : Specification) (made : List ℕ) (t : ℕ) (fault : ArrayFault) : Type 0 where
  pub number : ℕ
  pub one_of_them : number < operand_count s
  pub tensor : t ≡ operand s number
  pub source : IsSource made t
  pub before : HasSources files s made number
  pub fault_is : IsFault (shape_of s t) (file files (file_of s t)) fault

-- a formula with this number, from 1
pub record IsAt (batch : List Specification) (formula : ℕ) (Here : ℕ → Specification → Type 0) : Type 0 where
  pub number : ℕ
  pub specification : Specification
  pub counted : formula ≡ number + 1
  pub at : slice_get batch number ≡ Some specification
  pub here : Here number specification

-- there is such a formula
pub record IsOneOf (batch : List Specification) (formula : ℕ) : Type 0 where
  pub some : 1 ≤ formula
  pub within : formula ≤ length batch

-- why, for a formula
abbrev pub IsCauseAt : Option Files → List Specification → ℕ → ℕ → JobFault → Type 0
IsCauseAt told batch budget formula (BudgetTooSmall n) = IsAt batch formula (λ number s. AffordableBelow batch budget number × IsCause (λ _. ⊥) s budget (BudgetTooSmall n))
IsCauseAt told batch budget formula (IntermediatesTooLarge n) = IsAt batch formula (λ number s. AffordableBelow batch budget number × IsCause (λ _. ⊥) s budget (IntermediatesTooLarge n))
IsCauseAt told batch budget formula (Array t fault) =
    IsAt batch formula (λ number s. AffordableBelow batch budget (length batch) × (fault ≢ array_fault.Disk) × (t < length s.declarations.tensors)
    × ForSome told (λ files. SourcesBelow files batch number × IsRefusedSource files s (results_before batch number) t fault))
IsCauseAt told batch budget formula Disk = IsOneOf batch formula
IsCauseAt told batch budget formula Memory = IsOneOf batch formula

abbrev pub IsBatchCause : Option Files → List Specification → ℕ → BatchFault → Type 0
IsBatchCause told batch budget refused = IsCauseAt told batch budget refused.formula refused.fault

-- an operand is known to be refused where the disk tells its files
abbrev pub IsKnown : Option Files → JobFault → Type 0
IsKnown told (BudgetTooSmall n) = ⊤
IsKnown told (IntermediatesTooLarge n) = ⊤
IsKnown told (Array t fault) = IsSomeAnd told (λ _. ⊤)
IsKnown told Disk = ⊤
IsKnown told Memory = ⊤

-- the answer is this fault, or a free one
abbrev pub IsRefusedAs : {A : Type 0} → BatchFault → Result A BatchFault → Type 0
IsRefusedAs due (Ok answer) = ⊥
IsRefusedAs due (Err refused) = ((refused.formula ≡ due.formula) × (refused.fault ≡ due.fault)) ⊎ IsFree refused.fault

-- wherever there is a cause, it is the answer, or a free fault is
abbrev pub IsExact : {A : Type 0} → Option Files → List Specification → ℕ → Result A BatchFault → Type 0
IsExact told batch budget result = (due : BatchFault) → (IsFree due.fault → ⊥) → IsBatchCause told batch budget due → IsKnown told due.fault → IsRefusedAs due result

-- before any formula is run a failure and want of memory are told of the first
abbrev pub IsToldOfFirst : BatchFault → Type 0
IsToldOfFirst refused = IsFree refused.fault → refused.formula ≡ 1

-- the same of the parts of the program
abbrev pub IsCostFault : List Specification → ℕ → BatchFault → Type 0
IsCostFault batch budget refused = (told : Option Files) → (refused.fault ≢ Disk) × IsToldOfFirst refused × IsCauseAt told batch budget refused.formula refused.fault

abbrev pub IsOperandFault : Option Files → Specification → ℕ → JobFault → Type 0
IsOperandFault told s t (Array u fault) = (u ≡ t) × (fault ≢ array_fault.Disk) × ForSome told (λ files. IsFault (shape_of s t) (file files (file_of s t)) fault)
IsOperandFault told s t Disk = ⊤
IsOperandFault told s t fault = ⊥

abbrev pub IsSourceFault : Option Files → Specification → List ℕ → JobFault → Type 0
IsSourceFault told s made (Array t fault) = (fault ≢ array_fault.Disk) × (t < length s.declarations.tensors) × ForSome told (λ files. IsRefusedSource files s made t fault)
IsSourceFault told s made Disk = ⊤
IsSourceFault told s made fault = ⊥

abbrev pub IsOpeningFault : Option Files → List Specification → BatchFault → Type 0
IsOpeningFault told batch refused = (budget : ℕ) → AffordableBelow batch budget (length batch) → IsToldOfFirst refused × IsCauseAt told batch budget refused.formula refused.fault
