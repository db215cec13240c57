-- Why the command is refused that runs a tree in pieces: the file, then what stands against cuts, then the budget, then the operands.
use Rattle.std.specs.Prelude.{◌≡◌, ◌≢◌, ◌⊎◌, ⊤, ℕ, ◌*◌, ◌≤◌, List, Option, Some, None}
use Rattle.std.specs.Option.{ForSome}
use Rattle.tce_outside.specs.Files.{Files, file}
use Rattle.tce_array.specs.declared.fault.ArrayFault.TheVariants as array_fault
use Rattle.tce_spec.specs.Pieces.{Cuts}
use Rattle.tce_spec.specs.Specification.{Specification}
use Rattle.tce_job.specs.Opened.{HasOperands, operand_count}
use Rattle.tce_spill.specs.declared.fault.SpillFault.{SpillFault}
use Rattle.tce_spill.specs.declared.fault.SpillFault.TheVariants as faults
use Rattle.tce_spill.specs.PieceRuns.{largest_of}
use Rattle.tce_spill.specs.RunRefusals.{AreCut, IsSpillCause}
use Rattle.tce_command.specs.declared.refusal.Refusal.{Refusal}
use Rattle.tce_command.specs.declared.refusal.Refusal.TheVariants.{Budget, Spill, Disk, Memory}
use Rattle.tce_command.specs.declared.trouble.SpillTrouble.TheVariants as troubles
use Rattle.tce_command.specs.Source.{HasSpecification, IsSourceRefusal, MayRefuseSource}
use Rattle.tce_run.specs.Told.{TellsArray}

-- all that the pieces need is there: there are cuts for the limit, the budget holds three of the largest tiles of the operands, the result and the arrays of the cut nodes, and each operand has its file
pub record CanRunPieces (files : Files) (s : Specification) (budget limit : ℕ) : Type 0 where
  pub cut : Cuts
  pub are_cut : AreCut s limit cut
  pub enough : 3 * largest_of s cut ≤ budget
  pub operands : HasOperands files s (operand_count s)

-- the file holds a specification that can be run in pieces with this budget and within this limit
abbrev pub CanSpill : Files → List ℕ → ℕ → ℕ → Type 0
CanSpill files spec budget limit = (s : Specification) × HasSpecification files spec s × CanRunPieces files s budget limit

-- an array that the fault names is refused for its file, and not for a failure of the disk
abbrev pub IsOfFiles : SpillFault → Type 0
IsOfFiles (faults.Array name fault) = fault ≢ array_fault.Disk
IsOfFiles fault = ⊤

-- the refusal tells the fault
abbrev pub IsToldAs : SpillFault → Refusal → Type 0
IsToldAs faults.TooManyTensors refusal = refusal ≡ Spill troubles.TooManyTensors
IsToldAs (faults.LimitTooSmall root least) refusal = refusal ≡ Spill (troubles.LimitTooSmall root least)
IsToldAs (faults.BudgetTooSmall least) refusal = refusal ≡ Budget least
IsToldAs (faults.Array name fault) refusal = TellsArray name.bytes fault refusal
IsToldAs faults.Disk refusal = refusal ≡ Disk
IsToldAs faults.Memory refusal = refusal ≡ Memory

-- the refusal tells why the pieces of the specification are not run
pub record IsPieceRefusal (files : Files) (s : Specification) (budget limit : ℕ) (refusal : Refusal) : Type 0 where
  pub fault : SpillFault
  pub cause : IsSpillCause (Some files) s budget limit fault
  pub told : IsToldAs fault refusal

-- why the command is refused: for the file of the specification, or, where it holds one, for what its pieces need. The disk may fail, and memory be wanting, at any place
abbrev pub IsSpillRefusal : Files → List ℕ → ℕ → ℕ → Refusal → Type 0
IsSpillRefusal files spec budget limit refusal =
    IsSourceRefusal spec (file files spec) refusal
    ⊎ ((s : Specification) × HasSpecification files spec s × IsPieceRefusal files s budget limit refusal)

-- the refusal tells a fault that the pieces of the specification may have over a disk that tells nothing
pub record MayRefusePieces (s : Specification) (budget limit : ℕ) (refusal : Refusal) : Type 0 where
  pub fault : SpillFault
  pub told : IsToldAs fault refusal
  pub cause : IsSpillCause None s budget limit fault

-- how the command may be refused, whatever the disk tells
abbrev pub MayRefuseSpill : List ℕ → ℕ → ℕ → Refusal → Type 0
MayRefuseSpill spec budget limit refusal = MayRefuseSource spec refusal ⊎ ((s : Specification) × MayRefusePieces s budget limit refusal)

-- it is refused so, and where the disk tells its files for what they are
abbrev pub IsSpillRefusalOn : Option Files → List ℕ → ℕ → ℕ → Refusal → Type 0
IsSpillRefusalOn told spec budget limit refusal = MayRefuseSpill spec budget limit refusal × ForSome told (λ files. IsSpillRefusal files spec budget limit refusal)
