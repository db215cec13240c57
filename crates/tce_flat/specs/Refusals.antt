-- Why the commands on flat files are refused: the tensor is not found, or else its input is not what the command needs.
use Rattle.std.specs.Prelude.{◌≡◌, ◌≢◌, ◌⊎◌, ⊤, ℕ, List, length, Option, None}
use Rattle.std.specs.Option.{IsSomeAnd}
use Rattle.tce_outside.specs.Files.{Files, file}
use Rattle.tce_space.specs.Tiling.{Tiling}
use Rattle.tce_array.specs.declared.form.Form.{Form}
use Rattle.tce_array.specs.declared.form.Form.TheVariants.{Narrow}
use Rattle.tce_array.specs.Forms.{IsArray}
use Rattle.tce_tools.specs.Flat.{flat_len, array_element}
use Rattle.tce_tools.specs.Answers.{IsFirstMisfit, IsRefused, HasFlat, HasArray, HasFitting}
use Rattle.tce_spec.specs.Declarations.{tensor_number}
use Rattle.tce_spec.specs.Specification.{Specification}
use Rattle.tce_command.specs.Report.{fault_of}
use Rattle.tce_command.specs.declared.refusal.Refusal.{Refusal}
use Rattle.tce_command.specs.declared.refusal.Refusal.TheVariants.{Missing, Array, Flat, Tensor, Misfit, Symmetry, Memory}
use Rattle.tce_command.specs.declared.trouble.SymTrouble.TheVariants as trouble
use Rattle.tce_sym.specs.declared.symmetry.Symmetry.{Symmetry as Exchange}
use Rattle.tce_sym.specs.declared.fault.SymFault.TheVariants as sym
use Rattle.tce_sym.specs.Storage.{IsStored}
use Rattle.tce_sym.specs.Faults as sym_faults
use Rattle.tce_command.specs.Source.{IsSourceRefusal}
use Rattle.tce_flat.specs.Tensors.{HasTensor, LacksTensor, array_file, sym_file}

-- the refusal names the tensor
abbrev pub NamesTensor : List ℕ → Refusal → Type 0
NamesTensor tensor (Tensor name) = name.bytes ≡ tensor
NamesTensor tensor refusal = ⊥

-- why a specification gives no tensor of this name. Memory may be wanting at any place
abbrev pub IsUndeclared : Specification → List ℕ → Refusal → Type 0
IsUndeclared s tensor Memory = ⊤
IsUndeclared s tensor refusal = (tensor_number s.declarations.tensors tensor ≡ None) × NamesTensor tensor refusal

-- why a tensor is not found: the specification is refused, or declares no such tensor. The disk may fail, and memory be wanting, at any place
abbrev pub IsTensorRefusal : Files → List ℕ → List ℕ → Refusal → Type 0
IsTensorRefusal files spec tensor refusal =
    IsSourceRefusal spec (file files spec) refusal ⊎ (LacksTensor files spec tensor × NamesTensor tensor refusal)

-- what a command needs of its input, and why it refuses it, by the shape of its tensor
abbrev pub Need : Type 1
Need = Tiling → Type 0

abbrev pub Refuses : Type 1
Refuses = Tiling → Refusal → Type 0

-- the tensor is found, and its input is as needed
abbrev pub IsReadyFor : Need → Files → List ℕ → List ℕ → Type 0
IsReadyFor need files spec tensor = (shape : Tiling) × HasTensor files spec tensor shape × need shape

-- the tensor is not found, or its input is refused
abbrev pub IsRefusedFor : Refuses → Files → List ℕ → List ℕ → Refusal → Type 0
IsRefusedFor refuses files spec tensor refusal =
    IsTensorRefusal files spec tensor refusal ⊎ ((shape : Tiling) × HasTensor files spec tensor shape × refuses shape refusal)

-- why a flat file is refused
abbrev pub IsFlatRefusal : Files → List ℕ → Refuses
IsFlatRefusal files flat shape (Missing name) = (name.bytes ≡ flat) × (file files flat ≡ None)
IsFlatRefusal files flat shape (Flat len) = IsSomeAnd (file files flat) (λ bytes. (length bytes ≡ len) × (len ≢ flat_len shape))
IsFlatRefusal files flat shape refusal = ⊥

-- why the array file of a tensor is refused
abbrev pub IsArrayRefusal : Files → List ℕ → Refuses
IsArrayRefusal files tensor shape (Missing name) = (name.bytes ≡ array_file tensor) × (file files (array_file tensor) ≡ None)
IsArrayRefusal files tensor shape (Array name trouble) = (name.bytes ≡ tensor) × IsRefused shape (file files (array_file tensor)) (fault_of trouble)
IsArrayRefusal files tensor shape refusal = ⊥

-- why it is not converted to a form
abbrev pub IsFormRefusal : Files → List ℕ → Form → Refuses
IsFormRefusal files tensor form shape (Misfit place) =
    (form ≡ Narrow) × IsSomeAnd (file files (array_file tensor)) (λ bytes. IsArray shape bytes × IsFirstMisfit form shape (array_element shape bytes) place)
IsFormRefusal files tensor form shape refusal = IsArrayRefusal files tensor shape refusal

-- when a tensor can be packed, unpacked and converted, and why not
abbrev pub CanPack : Files → List ℕ → List ℕ → List ℕ → Type 0
CanPack files spec tensor flat = IsReadyFor (λ shape. HasFlat shape (file files flat)) files spec tensor

abbrev pub IsPackRefusal : Files → List ℕ → List ℕ → List ℕ → Refusal → Type 0
IsPackRefusal files spec tensor flat refusal = IsRefusedFor (IsFlatRefusal files flat) files spec tensor refusal

abbrev pub CanUnpack : Files → List ℕ → List ℕ → Type 0
CanUnpack files spec tensor = IsReadyFor (λ shape. HasArray shape (file files (array_file tensor))) files spec tensor

abbrev pub IsUnpackRefusal : Files → List ℕ → List ℕ → Refusal → Type 0
IsUnpackRefusal files spec tensor refusal = IsRefusedFor (IsArrayRefusal files tensor) files spec tensor refusal

abbrev pub CanConvert : Files → List ℕ → List ℕ → Form → Type 0
CanConvert files spec tensor form = IsReadyFor (λ shape. HasFitting form shape (file files (array_file tensor))) files spec tensor

abbrev pub IsConvertRefusal : Files → List ℕ → List ℕ → Form → Refusal → Type 0
IsConvertRefusal files spec tensor form refusal = IsRefusedFor (IsFormRefusal files tensor form) files spec tensor refusal

-- a file of stored elements of this shape is there
abbrev pub HasPairs : Tiling → Option (List ℕ) → Type 0
HasPairs shape found = (s : Exchange) × IsSomeAnd found (λ bytes. IsStored shape.extents s bytes)

-- why the file in which a tensor is stored once for each pair is refused
abbrev pub IsSymRefusal : Files → List ℕ → Refuses
IsSymRefusal files tensor shape (Missing name) = (name.bytes ≡ sym_file tensor) × (file files (sym_file tensor) ≡ None)
IsSymRefusal files tensor shape (Symmetry name (trouble.BadLength n)) = (name.bytes ≡ tensor) × sym_faults.IsFault shape.extents (file files (sym_file tensor)) (sym.BadLength n)
IsSymRefusal files tensor shape (Symmetry name (trouble.BadHeader p)) = (name.bytes ≡ tensor) × sym_faults.IsFault shape.extents (file files (sym_file tensor)) (sym.BadHeader p)
IsSymRefusal files tensor shape refusal = ⊥

abbrev pub CanExpand : Files → List ℕ → List ℕ → Type 0
CanExpand files spec tensor = IsReadyFor (λ shape. HasPairs shape (file files (sym_file tensor))) files spec tensor

abbrev pub IsExpandRefusal : Files → List ℕ → List ℕ → Refusal → Type 0
IsExpandRefusal files spec tensor refusal = IsRefusedFor (IsSymRefusal files tensor) files spec tensor refusal
