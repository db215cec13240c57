-- An array file on a disk, where the disk tells its files.
use Rattle.std.specs.Prelude.{◌≡◌, ℕ, ◌≤◌, List, length, Option, Result}
use Rattle.std.specs.Option.{ForSome, IsSomeAnd}
use Rattle.tce_space.specs.Tiling.{Tiling}
use Rattle.tce_outside.specs.Files.{Files, file, holding, written, bytes_from}
use Rattle.tce_array.specs.Forms.{form_of, form_bytes, head, head_len, IsArray}
use Rattle.tce_array.specs.Faults.{IsFault, IsOnlyAnswer}
use Rattle.tce_array.specs.declared.form.Form.{Form}
use Rattle.tce_array.specs.declared.fault.ArrayFault.{ArrayFault}

-- the file is there, and has this length
abbrev pub HasLengthOn : Option Files → List ℕ → ℕ → Type 0
HasLengthOn told name len = ForSome told (λ files. IsSomeAnd (file files name) (λ bytes. length bytes ≡ len))

-- the file is there, and this is its form by its first bytes
abbrev pub HasFormOn : Option Files → List ℕ → Form → Type 0
HasFormOn told name form = ForSome told (λ files. IsSomeAnd (file files name) (λ bytes. form_of bytes ≡ form))

-- the file is there, and is an array of this shape and form
abbrev pub HasArrayOn : Option Files → List ℕ → Tiling → Form → Type 0
HasArrayOn told name s form = ForSome told (λ files. IsSomeAnd (file files name) (λ bytes. (form_of bytes ≡ form) × IsArray s bytes))

-- the file has this fault as an array of this shape
abbrev pub HasFaultOn : Option Files → List ℕ → Tiling → ArrayFault → Type 0
HasFaultOn told name s fault = ForSome told (λ files. IsFault s (file files name) fault)

-- no other answer to opening the file is right, but where the disk failed
abbrev pub IsOnlyAnswerOn : Option Files → List ℕ → Tiling → Result Form ArrayFault → Type 0
IsOnlyAnswerOn told name s result = ForSome told (λ files. IsOnlyAnswer s (file files name) result)

-- the file is there, and is long enough for the head of an array of this form and shape
abbrev pub HasRoomForHead : Option Files → List ℕ → Form → Tiling → Type 0
HasRoomForHead told name form s = ForSome told (λ files. IsSomeAnd (file files name) (λ bytes. head_len form s ≤ length bytes))

-- by `files` of a disk before and after: the file is an array of zeros, and all others are as they were
abbrev pub HoldsZeros : {D : Type 0} → (D → Option Files) → D → D → List ℕ → Form → Tiling → Type 0
HoldsZeros files before after name form s = files after ≡ holding name (form_bytes form s (λ _. 0)) (files before)

-- the head is written over the first bytes of the file, and nothing else differs
abbrev pub HoldsHead : {D : Type 0} → (D → Option Files) → D → D → List ℕ → Form → Tiling → Type 0
HoldsHead files before after name form s = files after ≡ written name 0 (head form s) (files before)

-- what stands behind the head is as it was
abbrev pub SameBehindHead : List ℕ → Form → Tiling → Option Files → Option Files → Type 0
SameBehindHead name form s before after = bytes_from name (head_len form s) after ≡ bytes_from name (head_len form s) before
