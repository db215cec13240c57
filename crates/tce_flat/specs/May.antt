-- How the commands on flat files may be refused, whatever the disk tells.
use Rattle.std.specs.Prelude.{◌≡◌, ◌⊎◌, ⊤, ℕ, List}
use Rattle.tce_array.specs.declared.form.Form.{Form}
use Rattle.tce_array.specs.declared.form.Form.TheVariants.{Narrow}
use Rattle.tce_command.specs.declared.refusal.Refusal.{Refusal}
use Rattle.tce_command.specs.declared.refusal.Refusal.TheVariants.{Missing, Array, Flat, Misfit, Symmetry}
use Rattle.tce_command.specs.Refusals.{IsFree}
use Rattle.tce_command.specs.Source.{MayRefuseSource}
use Rattle.tce_flat.specs.Refusals.{NamesTensor}
use Rattle.tce_flat.specs.Tensors.{array_file, sym_file}

-- the tensor is not found: its specification is refused, or has no tensor of this name
abbrev pub MayLackTensor : List ℕ → List ℕ → Refusal → Type 0
MayLackTensor spec tensor refusal = MayRefuseSource spec refusal ⊎ NamesTensor tensor refusal

-- the input is refused: its file is not there, or is not what the command needs; of an array, and of stored elements, the tensor is named. The disk may fail, and memory be wanting
abbrev pub MayRefuseFlat : List ℕ → Refusal → Type 0
MayRefuseFlat flat (Missing name) = name.bytes ≡ flat
MayRefuseFlat flat (Flat len) = ⊤
MayRefuseFlat flat refusal = IsFree refusal

abbrev pub MayRefuseArray : List ℕ → Refusal → Type 0
MayRefuseArray tensor (Missing name) = name.bytes ≡ array_file tensor
MayRefuseArray tensor (Array name trouble) = name.bytes ≡ tensor
MayRefuseArray tensor refusal = IsFree refusal

abbrev pub MayRefuseForm : List ℕ → Form → Refusal → Type 0
MayRefuseForm tensor form (Misfit place) = form ≡ Narrow
MayRefuseForm tensor form refusal = MayRefuseArray tensor refusal

abbrev pub MayRefuseSym : List ℕ → Refusal → Type 0
MayRefuseSym tensor (Missing name) = name.bytes ≡ sym_file tensor
MayRefuseSym tensor (Symmetry name trouble) = name.bytes ≡ tensor
MayRefuseSym tensor refusal = IsFree refusal

-- the command is refused
abbrev pub MayRefusePack : List ℕ → List ℕ → List ℕ → Refusal → Type 0
MayRefusePack spec tensor flat refusal = MayLackTensor spec tensor refusal ⊎ MayRefuseFlat flat refusal

abbrev pub MayRefuseUnpack : List ℕ → List ℕ → Refusal → Type 0
MayRefuseUnpack spec tensor refusal = MayLackTensor spec tensor refusal ⊎ MayRefuseArray tensor refusal

abbrev pub MayRefuseConvert : List ℕ → List ℕ → Form → Refusal → Type 0
MayRefuseConvert spec tensor form refusal = MayLackTensor spec tensor refusal ⊎ MayRefuseForm tensor form refusal

abbrev pub MayRefuseExpand : List ℕ → List ℕ → Refusal → Type 0
MayRefuseExpand spec tensor refusal = MayLackTensor spec tensor refusal ⊎ MayRefuseSym tensor refusal
