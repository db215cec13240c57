-- The files of the operands of a specification.
use Rattle.std.specs.Prelude.{◌≡◌, ℕ, ◌<◌, List, length, slice_index, slice_index_or, Option, Result, IsErrAnd}
use Rattle.std.specs.Option.{IsSomeAnd, ForSome}
use Rattle.tce_outside.specs.Files.{Files, file}
use Rattle.tce_array.specs.declared.form.Form.{Form}
use Rattle.tce_array.specs.declared.form.Form.TheVariants.{One}
use Rattle.tce_array.specs.Forms.{form_of, IsArray}
use Rattle.tce_array.specs.Faults.{IsFault}
use Rattle.tce_spec.specs.Specification.{Specification}
use Rattle.tce_spec.specs.Operands.{operands, shape_of}
use Rattle.tce_job.specs.TensorFiles.{file_of}
use Rattle.tce_job.specs.declared.opening.Refused.{Refused}
use Rattle.tce_array.specs.declared.fault.ArrayFault.TheVariants.{Disk}

-- how many operands there are, and the d-th by first use
abbrev pub operand_count : Specification → ℕ
operand_count s = length (operands s)

abbrev pub operand : Specification → ℕ → ℕ
operand s d = slice_index (operands s) d

-- the form of a tensor's file, by the tensor's number
abbrev pub form_at : List Form → ℕ → Form
form_at forms t = slice_index_or forms t One

-- the file of a tensor is there, and is an array of the tensor's shape
abbrev pub HasArray : Files → Specification → ℕ → Type 0
HasArray files s t = IsSomeAnd (file files (file_of s t)) (IsArray (shape_of s t))

-- the first operands are there, that many of them
abbrev pub HasOperands : Files → Specification → ℕ → Type 0
HasOperands files s count = (d : ℕ) → d < count → HasArray files s (operand s d)

-- the file of a tensor is there, is an array of the tensor's shape, and has this form
abbrev pub IsOpened : Files → Specification → List Form → ℕ → Type 0
IsOpened files s forms t = IsSomeAnd (file files (file_of s t)) (λ bytes. (form_of bytes ≡ form_at forms t) × IsArray (shape_of s t) bytes)

abbrev pub AreOpened : Files → Specification → List Form → ℕ → Type 0
AreOpened files s forms count = (d : ℕ) → d < count → IsOpened files s forms (operand s d)

-- the d-th operand is the first that is refused, with this fault
pub record IsRefusedAt (files : Files) (s : Specification) (d : ℕ) (refused : Refused) : Type 0 where
  pub one_of_them : d < operand_count s
  pub tensor : refused.tensor ≡ operand s d
  pub before : HasOperands files s d
  pub fault : IsFault (shape_of s refused.tensor) (file files (file_of s refused.tensor)) refused.fault

abbrev pub IsRefused : Files → Specification → Refused → Type 0
IsRefused files s refused = (d : ℕ) × IsRefusedAt files s d refused

-- a declared tensor is refused
abbrev pub IsOfDeclared : Specification → Refused → Type 0
IsOfDeclared s refused = refused.tensor < length s.declarations.tensors

-- the answer is that the disk failed
abbrev pub IsDiskFault : {A : Type 0} → Result A Refused → Type 0
IsDiskFault result = IsErrAnd result (λ (refused : Refused). refused.fault ≡ Disk)

-- Of a disk, where it tells its files.

-- the file of a tensor is there, is an array of the tensor's shape, and has this form
abbrev pub HasArrayOn : Option Files → Specification → ℕ → Form → Type 0
HasArrayOn told s t form = ForSome told (λ files. IsSomeAnd (file files (file_of s t)) (λ bytes. (form_of bytes ≡ form) × IsArray (shape_of s t) bytes))

-- the file of a tensor has the fault for which it is refused
abbrev pub HasFaultOn : Option Files → Specification → ℕ → Refused → Type 0
HasFaultOn told s t refused = ForSome told (λ files. IsFault (shape_of s t) (file files (file_of s t)) refused.fault)

-- the files of all operands have these forms, by the numbers of their tensors
abbrev pub AreOpenedOn : Option Files → Specification → List Form → Type 0
AreOpenedOn told s forms = ForSome told (λ files. AreOpened files s forms (operand_count s))

-- the first operand that is refused, and why
abbrev pub IsRefusedOn : Option Files → Specification → Refused → Type 0
IsRefusedOn told s refused = ForSome told (λ files. IsRefused files s refused)
