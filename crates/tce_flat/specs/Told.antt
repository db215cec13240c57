-- What the commands on flat files answer and leave, of a disk that may tell its files.
use Rattle.std.specs.Prelude.{◌≡◌, ◌≢◌, ◌⊎◌, ℕ, List, Option, Result, IfOk, IfErr}
use Rattle.std.specs.Option.{ForSome}
use Rattle.std.specs.declared.string.String.{String}
use Rattle.std.specs.String.{string_bytes}
use Rattle.tce_outside.specs.Files.{Files, others}
use Rattle.tce_space.specs.Tiling.{Tiling}
use Rattle.tce_array.specs.declared.form.Form.{Form}
use Rattle.tce_command.specs.declared.refusal.Refusal.{Refusal}
use Rattle.tce_command.specs.declared.refusal.Refusal.TheVariants.{Disk}
use Rattle.tce_command.specs.Refusals.{IsFree}
use Rattle.tce_flat.specs.May.{MayLackTensor, MayRefuseFlat, MayRefuseArray, MayRefuseForm, MayRefuseSym, MayRefusePack, MayRefuseUnpack, MayRefuseConvert, MayRefuseExpand}
use Rattle.tce_flat.specs.NoHalf.{LeavesPacking, LeavesUnpacking, LeavesConverting, LeavesExpanding, LeavesFor}
use Rattle.tce_flat.specs.Refusals.{IsTensorRefusal, IsFlatRefusal, IsArrayRefusal, IsFormRefusal, IsSymRefusal, IsPackRefusal, IsUnpackRefusal, IsConvertRefusal, IsExpandRefusal}
use Rattle.tce_flat.specs.Tensors.{HasTensor, array_file, converted_file}

-- the report of a finished command is right
abbrev pub Reports : {X : Type 0} → Result (String X) Refusal → (List ℕ → Type 0) → Type 0
Reports result is_right = IfOk result (λ report. is_right (string_bytes report))

-- where a command is refused and the disk did not fail, no file changed
abbrev pub KeepsFiles : {A : Type 0} → Result A Refusal → Option Files → Option Files → Type 0
KeepsFiles result before after = IfErr result (λ refusal. refusal ≢ Disk → after ≡ before)

-- the tensor of this name is declared in the file of this name, and has this shape; it is not found as may be, and where the disk tells its files for what they are
abbrev pub FindsTensor : Option Files → List ℕ → List ℕ → Tiling → Type 0
FindsTensor told spec tensor shape = ForSome told (λ files. HasTensor files spec tensor shape)

abbrev pub RefusesTensor : Option Files → List ℕ → List ℕ → Refusal → Type 0
RefusesTensor told spec tensor refusal = MayLackTensor spec tensor refusal × ForSome told (λ files. IsTensorRefusal files spec tensor refusal)

-- the input of a command is refused as it may be, and where the disk tells its files for what it is, or the disk fails, or memory is wanting: a flat file, an array file, one that is to be converted, a file of stored elements
abbrev pub RefusesFlat : Option Files → List ℕ → Tiling → Refusal → Type 0
RefusesFlat told flat shape refusal = MayRefuseFlat flat refusal × ForSome told (λ files. IsFree refusal ⊎ IsFlatRefusal files flat shape refusal)

abbrev pub RefusesArray : Option Files → List ℕ → Tiling → Refusal → Type 0
RefusesArray told tensor shape refusal = MayRefuseArray tensor refusal × ForSome told (λ files. IsFree refusal ⊎ IsArrayRefusal files tensor shape refusal)

abbrev pub RefusesForm : Option Files → List ℕ → Form → Tiling → Refusal → Type 0
RefusesForm told tensor form shape refusal = MayRefuseForm tensor form refusal × ForSome told (λ files. IsFree refusal ⊎ IsFormRefusal files tensor form shape refusal)

abbrev pub RefusesSym : Option Files → List ℕ → Tiling → Refusal → Type 0
RefusesSym told tensor shape refusal = MayRefuseSym tensor refusal × ForSome told (λ files. IsFree refusal ⊎ IsSymRefusal files tensor shape refusal)

-- each command is refused so
abbrev pub RefusesPack : Option Files → List ℕ → List ℕ → List ℕ → Refusal → Type 0
RefusesPack told spec tensor flat refusal = MayRefusePack spec tensor flat refusal × ForSome told (λ files. IsPackRefusal files spec tensor flat refusal)

abbrev pub RefusesUnpack : Option Files → List ℕ → List ℕ → Refusal → Type 0
RefusesUnpack told spec tensor refusal = MayRefuseUnpack spec tensor refusal × ForSome told (λ files. IsUnpackRefusal files spec tensor refusal)

abbrev pub RefusesConvert : Option Files → List ℕ → List ℕ → Form → Refusal → Type 0
RefusesConvert told spec tensor form refusal = MayRefuseConvert spec tensor form refusal × ForSome told (λ files. IsConvertRefusal files spec tensor form refusal)

abbrev pub RefusesExpand : Option Files → List ℕ → List ℕ → Refusal → Type 0
RefusesExpand told spec tensor refusal = MayRefuseExpand spec tensor refusal × ForSome told (λ files. IsExpandRefusal files spec tensor refusal)

-- what each command leaves of the file that it makes, wherever it ends
abbrev pub LeavesPack : List ℕ → List ℕ → List ℕ → Option Files → Option Files → Type 0
LeavesPack spec tensor flat before after = LeavesFor (LeavesPacking tensor flat) spec tensor before after

abbrev pub LeavesUnpack : List ℕ → List ℕ → List ℕ → Option Files → Option Files → Type 0
LeavesUnpack spec tensor flat before after = LeavesFor (LeavesUnpacking tensor flat) spec tensor before after

abbrev pub LeavesConvert : List ℕ → List ℕ → Form → Option Files → Option Files → Type 0
LeavesConvert spec tensor form before after = LeavesFor (LeavesConverting tensor form) spec tensor before after

abbrev pub LeavesExpand : List ℕ → List ℕ → Option Files → Option Files → Type 0
LeavesExpand spec tensor before after = LeavesFor (LeavesExpanding tensor) spec tensor before after

-- no file but the tensor's array file, or the converted one, differs
abbrev pub ArrayAlone : List ℕ → Option Files → Option Files → Type 0
ArrayAlone tensor before after = others (array_file tensor) after ≡ others (array_file tensor) before

abbrev pub ConvertedAlone : List ℕ → Option Files → Option Files → Type 0
ConvertedAlone tensor before after = others (converted_file tensor) after ≡ others (converted_file tensor) before
