-- The refusal for each answer of the tools.
use Rattle.std.specs.Prelude.{◌≡◌, ◌≢◌, ⊤, ℕ, List}
use Rattle.tce_array.specs.declared.fault.ArrayFault.TheVariants as array_fault
use Rattle.tce_tools.specs.declared.fault.ToolFault.{ToolFault}
use Rattle.tce_tools.specs.declared.fault.ToolFault.TheVariants as tool
use Rattle.tce_sym.specs.declared.fault.SymFault.{SymFault}
use Rattle.tce_sym.specs.declared.fault.SymFault.TheVariants as sym
use Rattle.tce_command.specs.declared.trouble.SymTrouble.{SymTrouble}
use Rattle.tce_command.specs.declared.trouble.SymTrouble.TheVariants as trouble
use Rattle.tce_flat.specs.Tensors.{sym_file}
use Rattle.tce_command.specs.Report.{fault_of}
use Rattle.tce_command.specs.Refusals.{NamesFile}
use Rattle.tce_command.specs.declared.refusal.Refusal.{Refusal}
use Rattle.tce_command.specs.declared.refusal.Refusal.TheVariants.{Array, Flat, Misfit, Symmetry, Disk, Memory}

-- an array is refused for its file, and not for a failure of the disk
abbrev pub IsOfFiles : ToolFault → Type 0
IsOfFiles (tool.Array fault) = fault ≢ array_fault.Disk
IsOfFiles fault = ⊤

-- the refusal keeps the fault and names the tensor
abbrev pub KeepsFault : List ℕ → ToolFault → Refusal → Type 0
KeepsFault tensor fault (Array name kept) = (fault ≡ tool.Array (fault_of kept)) × (name.bytes ≡ tensor)
KeepsFault tensor fault refusal = ⊥

-- for a command on this tensor with this input
abbrev pub Stands : List ℕ → List ℕ → ToolFault → Refusal → Type 0
Stands tensor input tool.NoFlat refusal = NamesFile input refusal
Stands tensor input (tool.FlatLength len) refusal = refusal ≡ Flat len
Stands tensor input (tool.Array array_fault.NoFile) refusal = NamesFile input refusal
Stands tensor input (tool.Array fault) refusal = KeepsFault tensor (tool.Array fault) refusal
Stands tensor input (tool.DoesNotFit place) refusal = refusal ≡ Misfit place
Stands tensor input tool.Disk refusal = refusal ≡ Disk
Stands tensor input tool.Memory refusal = refusal ≡ Memory

-- the refusal keeps what is wrong with a file of stored elements, and names the tensor
abbrev pub KeepsTrouble : List ℕ → SymTrouble → Refusal → Type 0
KeepsTrouble tensor wrong (Symmetry name kept) = (wrong ≡ kept) × (name.bytes ≡ tensor)
KeepsTrouble tensor wrong refusal = ⊥

abbrev pub SymStands : List ℕ → SymFault → Refusal → Type 0
SymStands tensor sym.NoFile refusal = NamesFile (sym_file tensor) refusal
SymStands tensor (sym.BadLength n) refusal = KeepsTrouble tensor (trouble.BadLength n) refusal
SymStands tensor (sym.BadHeader p) refusal = KeepsTrouble tensor (trouble.BadHeader p) refusal
SymStands tensor sym.Disk refusal = refusal ≡ Disk
