-- What opening a file answers, and why a file is refused.
use Rattle.std.specs.Prelude.{◌≡◌, ◌≢◌, ◌⊎◌, ℕ, ◌<◌, List, length, take, slice_index, Option, None, Result, Ok, Err}
use Rattle.std.specs.Option.{IsSomeAnd}
use Rattle.tce_space.specs.Tiling.{Tiling}
use Rattle.tce_array.specs.Forms.{form_of, form_len, head, head_len, IsArray}
use Rattle.tce_array.specs.declared.form.Form.{Form}
use Rattle.tce_array.specs.declared.fault.ArrayFault.{ArrayFault}
use Rattle.tce_array.specs.declared.fault.ArrayFault.TheVariants.{NoFile, BadLength, BadHeader, Disk}

-- two lists of one length differ first at this place
pub record DifferFirst (xs ys : List ℕ) (p : ℕ) : Type 0 where
  pub inside : p < length ys
  pub same : take p xs ≡ take p ys
  pub differ : slice_index xs p ≢ slice_index ys p

-- what is wrong with a file, for each fault
abbrev pub IsFault : Tiling → Option (List ℕ) → ArrayFault → Type 0
IsFault s found NoFile = found ≡ None
IsFault s found (BadLength n) = IsSomeAnd found (λ bytes. (length bytes ≡ n) × (n ≢ form_len (form_of bytes) s))
IsFault s found (BadHeader p) = IsSomeAnd found (λ bytes. (length bytes ≡ form_len (form_of bytes) s) × DifferFirst (take (head_len (form_of bytes) s) bytes) (head (form_of bytes) s) p)
IsFault s found Disk = Unit {0}

-- the answer is right for a file with these contents, or for none
abbrev pub IsAnswer : Tiling → Option (List ℕ) → Result Form ArrayFault → Type 0
IsAnswer s found (Ok form) = IsSomeAnd found (λ bytes. (form_of bytes ≡ form) × IsArray s bytes)
IsAnswer s found (Err fault) = IsFault s found fault

-- no other answer is right, but where the device failed
abbrev pub IsOnlyAnswer : Tiling → Option (List ℕ) → Result Form ArrayFault → Type 0
IsOnlyAnswer s found result = (answer : Result Form ArrayFault) → IsAnswer s found answer → answer ≢ Err Disk → (result ≡ answer) ⊎ (result ≡ Err Disk)

-- the answer is that the disk failed
abbrev pub IsDiskFault : {A : Type 0} → Result A ArrayFault → Type 0
IsDiskFault result = result ≡ Err Disk
