-- How a fault of a run is told to a user.
use Rattle.std.specs.Prelude.{◌≡◌, ◌≢◌, ◌<◌, ⊤, ℕ, List, length, ◌++◌, codes}
use Rattle.tce_array.specs.declared.fault.ArrayFault.{ArrayFault}
use Rattle.tce_array.specs.declared.fault.ArrayFault.TheVariants as array_fault
use Rattle.tce_spec.specs.Declarations.{Declarations, tensor_at}
use Rattle.tce_spec.specs.Specification.{Specification}
use Rattle.tce_job.specs.TensorFiles.{name_of}
use Rattle.tce_job.specs.declared.fault.JobFault.{JobFault}
use Rattle.tce_job.specs.declared.fault.JobFault.TheVariants as faults
use Rattle.tce_command.specs.Refusals.{NamesFile}
use Rattle.tce_command.specs.Report.{fault_of}
use Rattle.tce_command.specs.declared.refusal.Refusal.{Refusal}
use Rattle.tce_command.specs.declared.refusal.Refusal.TheVariants.{Array, Budget, Intermediates, Disk, Memory}

-- the refusal names this tensor, and tells this fault of its file
abbrev pub NamesTensor : List ℕ → ArrayFault → Refusal → Type 0
NamesTensor name fault (Array tensor told) = (tensor.bytes ≡ name) × (fault_of told ≡ fault)
NamesTensor name fault refusal = ⊥

-- an array that is not there is told by its file, one that is not of its shape by the name of its tensor
abbrev pub TellsArray : List ℕ → ArrayFault → Refusal → Type 0
TellsArray name array_fault.NoFile refusal = NamesFile (name ++ codes ".tca") refusal
TellsArray name fault refusal = NamesTensor name fault refusal

-- an operand is told as its array
abbrev pub TellsOperand : Specification → ℕ → ArrayFault → Refusal → Type 0
TellsOperand s t fault refusal = TellsArray (name_of s t) fault refusal

-- an operand that the fault names is refused for its file, and not for a failure of the disk
abbrev pub IsOfFiles : JobFault → Type 0
IsOfFiles (faults.Array t fault) = fault ≢ array_fault.Disk
IsOfFiles fault = ⊤

-- an operand that the fault names is declared
abbrev pub NamesOneOf : Declarations → JobFault → Type 0
NamesOneOf d (faults.Array t fault) = t < length d.tensors
NamesOneOf d fault = ⊤

-- the refusal tells the fault of a run over these declarations
abbrev pub IsToldOver : Declarations → JobFault → Refusal → Type 0
IsToldOver d (faults.BudgetTooSmall least) refusal = refusal ≡ Budget least
IsToldOver d (faults.IntermediatesTooLarge memory) refusal = refusal ≡ Intermediates memory
IsToldOver d (faults.Array t fault) refusal = TellsArray (tensor_at d t).name fault refusal
IsToldOver d faults.Disk refusal = refusal ≡ Disk
IsToldOver d faults.Memory refusal = refusal ≡ Memory

-- of a run of this specification
abbrev pub IsToldAs : Specification → JobFault → Refusal → Type 0
IsToldAs s fault refusal = IsToldOver s.declarations fault refusal
