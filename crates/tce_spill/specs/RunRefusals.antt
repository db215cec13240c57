-- Why the pieces of a tree are not run: first there may be no cuts, then the budget may be small, then an operand may be refused.
use Rattle.std.specs.Prelude.{◌≡◌, ◌≢◌, ◌⊎◌, ⊤, ℕ, ◌*◌, ◌-◌, ◌<◌, ◌≤◌, IsTrue, List, length, Option, IsSomeAnd, Result}
use Rattle.std.specs.declared.result.Result.TheVariants.{Ok, Err}
use Rattle.std.specs.Option.{ForSome}
use Rattle.tce_space.specs.Limits.{max_memory}
use Rattle.tce_outside.specs.Files.{Files}
use Rattle.tce_array.specs.declared.fault.ArrayFault.{ArrayFault}
use Rattle.tce_array.specs.declared.fault.ArrayFault.TheVariants as array_fault
use Rattle.tce_tree.specs.ContractionTree.{operations}
use Rattle.tce_spec.specs.Declarations.{HaveNames}
use Rattle.tce_spec.specs.Pieces.{Cuts}
use Rattle.tce_spec.specs.Specification.{Specification}
use Rattle.tce_spec.specs.PieceSpecification.{source}
use Rattle.tce_job.specs.TensorFiles.{name_of}
use Rattle.tce_job.specs.Opened.{IsRefused}
use Rattle.tce_spill.specs.CutsFor.{AreCutsFor, AreStorable, MeetLimit}
use Rattle.tce_spill.specs.CutRefusals.{IsCutFault, IsFree}
use Rattle.tce_spill.specs.declared.fault.SpillFault.{SpillFault}
use Rattle.tce_spill.specs.declared.fault.SpillFault.TheVariants.{TooManyTensors, LimitTooSmall, BudgetTooSmall, Array, Disk, Memory}
use Rattle.tce_spill.specs.PieceRuns.{largest_of}

-- the cuts for a limit, where nothing stands against cuts
pub record AreCut (s : Specification) (limit : ℕ) (cut : Cuts) : Type 0 where
  pub none : (due : SpillFault) → (IsFree due → ⊥) → IsCutFault s limit due → ⊥
  pub cuts : AreCutsFor s.declarations.space s.tree limit cut

-- an operand of the whole is refused where the disk tells its files, and is the first that is; where it tells nothing, any tensor or array may be refused that is read
pub record IsRefusedSource (told : Option Files) (s : Specification) (cut : Cuts) (name : List ℕ) (fault : ArrayFault) : Type 0 where
  pub number : ℕ
  pub known : (number < length s.declarations.tensors) ⊎ ((32 ≤ number) × IsTrue (cut (number - 32)))
  pub named : name ≡ (source s number).name
  pub refused : ForSome told (λ files. (number < length s.declarations.tensors) × IsRefused files s (record { tensor = number; fault = fault }))
  pub real : fault ≢ array_fault.Disk

-- something holds with the cuts for the limit
pub record WithCuts (s : Specification) (limit : ℕ) (Here : Cuts → Type 0) : Type 0 where
  pub cut : Cuts
  pub are_cut : AreCut s limit cut
  pub here : Here cut

-- the budget is below three of the largest tiles, which have so many words
pub record IsBelow (s : Specification) (budget n : ℕ) (cut : Cuts) : Type 0 where
  pub words : n ≡ 3 * largest_of s cut
  pub below : budget < n

-- the budget is enough, and a tensor or an array is refused
pub record IsArrayRefused (told : Option Files) (s : Specification) (budget : ℕ) (name : List ℕ) (fault : ArrayFault) (cut : Cuts) : Type 0 where
  pub enough : 3 * largest_of s cut ≤ budget
  pub source : IsRefusedSource told s cut name fault

-- why the pieces are not run. The disk may fail, and memory be wanting, at any place
abbrev pub IsSpillCause : Option Files → Specification → ℕ → ℕ → SpillFault → Type 0
IsSpillCause told s budget limit TooManyTensors = IsCutFault s limit TooManyTensors
IsSpillCause told s budget limit (LimitTooSmall v n) = IsCutFault s limit (LimitTooSmall v n)
IsSpillCause told s budget limit (BudgetTooSmall n) = WithCuts s limit (IsBelow s budget n)
IsSpillCause told s budget limit (Array name fault) = WithCuts s limit (IsArrayRefused told s budget name.bytes fault)
IsSpillCause told s budget limit Disk = ⊤
IsSpillCause told s budget limit Memory = ⊤

-- an operand is known to be refused where the disk tells its files
abbrev pub IsKnown : Option Files → SpillFault → Type 0
IsKnown told TooManyTensors = ⊤
IsKnown told (LimitTooSmall v n) = ⊤
IsKnown told (BudgetTooSmall n) = ⊤
IsKnown told (Array name fault) = IsSomeAnd told (λ _. ⊤)
IsKnown told Disk = ⊤
IsKnown told Memory = ⊤

-- two faults are one; names are the same where their bytes are
abbrev pub IsArrayFault : List ℕ → ArrayFault → SpillFault → Type 0
IsArrayFault bytes found (Array name fault) = (bytes ≡ name.bytes) × (found ≡ fault)
IsArrayFault bytes found other = ⊥

abbrev pub IsSameFault : SpillFault → SpillFault → Type 0
IsSameFault (Array name fault) due = IsArrayFault name.bytes fault due
IsSameFault fault due = fault ≡ due

-- the answer is this fault, or a free one
abbrev pub IsRefusedAs : {A : Type 0} → SpillFault → Result A SpillFault → Type 0
IsRefusedAs due (Ok answer) = ⊥
IsRefusedAs due (Err fault) = IsSameFault fault due ⊎ IsFree fault

-- wherever there is a cause, it is the answer, or a free fault is
abbrev pub IsExact : {A : Type 0} → Option Files → Specification → ℕ → ℕ → Result A SpillFault → Type 0
IsExact told s budget limit result = (due : SpillFault) → (IsFree due → ⊥) → IsSpillCause told s budget limit due → IsKnown told due → IsRefusedAs due result

-- what is known when the pieces are run
pub record CanSpill (s : Specification) (cut : Cuts) (budget : ℕ) : Type 0 where
  pub names : HaveNames s.declarations.tensors
  pub few : length s.declarations.tensors ≤ 31
  pub allowed : AreStorable s.declarations.space s.tree cut
  pub inside : (v : ℕ) → operations s.tree ≤ v → IsTrue (cut v) → ⊥
  pub enough : 3 * largest_of s cut ≤ budget
  pub limit : budget ≤ max_memory
  pub meet : MeetLimit s.declarations.space s.tree cut max_memory

-- a declared tensor of this name is refused
pub record IsTensorRefused (Refused : ℕ → Type 0) (s : Specification) (name : List ℕ) (fault : ArrayFault) : Type 0 where
  pub number : ℕ
  pub declared : number < length s.declarations.tensors
  pub named : name ≡ name_of s number
  pub refused : Refused number
  pub real : fault ≢ array_fault.Disk

-- why the arrays of a specification are not opened
abbrev pub IsOpeningFault : Option Files → Specification → SpillFault → Type 0
IsOpeningFault told s (Array name fault) = IsTensorRefused (λ t. ForSome told (λ files. IsRefused files s (record { tensor = t; fault = fault }))) s name.bytes fault
IsOpeningFault told s Disk = ⊤
IsOpeningFault told s fault = ⊥

-- why a piece is not run that can be: its tensors may be refused only where the disk tells nothing
abbrev pub IsRunFault : Option Files → Specification → SpillFault → Type 0
IsRunFault told s (Array name fault) = IsTensorRefused (λ t. ForSome told (λ files. ⊥)) s name.bytes fault
IsRunFault told s Disk = ⊤
IsRunFault told s Memory = ⊤
IsRunFault told s fault = ⊥

-- and why they are not all run
abbrev pub IsLateFault : Option Files → Specification → Cuts → SpillFault → Type 0
IsLateFault told s cut (Array name fault) = ForSome told (λ files. ⊥) × IsRefusedSource told s cut name.bytes fault
IsLateFault told s cut Disk = ⊤
IsLateFault told s cut Memory = ⊤
IsLateFault told s cut fault = ⊥

-- why the budget and the operands of the whole do not pass
abbrev pub IsTestFault : Option Files → Specification → Cuts → ℕ → SpillFault → Type 0
IsTestFault told s cut budget (BudgetTooSmall n) = (n ≡ 3 * largest_of s cut) × (budget < n)
IsTestFault told s cut budget (Array name fault) = (3 * largest_of s cut ≤ budget) × IsOpeningFault told s (Array name fault)
IsTestFault told s cut budget Disk = ⊤
IsTestFault told s cut budget Memory = ⊤
IsTestFault told s cut budget fault = ⊥
