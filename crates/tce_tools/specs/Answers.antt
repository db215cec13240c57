-- What the calls answer, and why they refuse.
use Rattle.std.specs.Prelude.{◌≡◌, ◌≢◌, ⊤, ◌⊎◌, ℕ, ◌<◌, List, length, slice_index, Option, None, Result, Ok, Err, IfErr}
use Rattle.std.specs.Option.{IsSomeAnd}
use Rattle.tce_space.specs.Box.{place, IsInside}
use Rattle.tce_space.specs.Tiling.{Tiling, elements}
use Rattle.tce_array.specs.declared.form.Form.{Form}
use Rattle.tce_array.specs.declared.form.Form.TheVariants.{Narrow}
use Rattle.tce_array.specs.declared.fault.ArrayFault.{ArrayFault}
use Rattle.tce_array.specs.declared.fault.ArrayFault.TheVariants as array_fault
use Rattle.tce_array.specs.Forms.{IsArray, Fits}
use Rattle.tce_array.specs.Faults.{IsFault}
use Rattle.tce_tools.specs.Flat.{flat_len, array_element}
use Rattle.tce_tools.specs.declared.fault.ToolFault.{ToolFault}
use Rattle.tce_tools.specs.declared.fault.ToolFault.TheVariants.{NoFlat, FlatLength, Array, DoesNotFit, Disk, Memory}

-- an array of this shape is there
abbrev pub HasArray : Tiling → Option (List ℕ) → Type 0
HasArray s found = IsSomeAnd found (λ bytes. IsArray s bytes)

-- a flat file for this shape is there
abbrev pub HasFlat : Tiling → Option (List ℕ) → Type 0
HasFlat s found = IsSomeAnd found (λ bytes. length bytes ≡ flat_len s)

-- the array is refused, and the disk did not fail
abbrev pub IsRefused : Tiling → Option (List ℕ) → ArrayFault → Type 0
IsRefused s found fault = IsFault s found fault × (fault ≢ array_fault.Disk)

-- what packing answers to a flat file with these contents, or to none
abbrev pub IsPackAnswer : Tiling → Option (List ℕ) → Result (Unit {0}) ToolFault → Type 0
IsPackAnswer s found (Ok done) = HasFlat s found
IsPackAnswer s found (Err NoFlat) = found ≡ None
IsPackAnswer s found (Err (FlatLength n)) = IsSomeAnd found (λ bytes. (length bytes ≡ n) × (n ≢ flat_len s))
IsPackAnswer s found (Err (Array fault)) = ⊥
IsPackAnswer s found (Err (DoesNotFit k)) = ⊥
IsPackAnswer s found (Err Disk) = ⊤
IsPackAnswer s found (Err Memory) = HasFlat s found

-- what unpacking answers to an array file with these contents, or to none
abbrev pub IsUnpackAnswer : Tiling → Option (List ℕ) → Result (Unit {0}) ToolFault → Type 0
IsUnpackAnswer s found (Ok done) = HasArray s found
IsUnpackAnswer s found (Err NoFlat) = ⊥
IsUnpackAnswer s found (Err (FlatLength n)) = ⊥
IsUnpackAnswer s found (Err (Array fault)) = IsRefused s found fault
IsUnpackAnswer s found (Err (DoesNotFit k)) = ⊥
IsUnpackAnswer s found (Err Disk) = ⊤
IsUnpackAnswer s found (Err Memory) = HasArray s found

-- the elements before one, in row-major order, can be stored in this form
abbrev pub FitBefore : Form → Tiling → (List ℕ → ℕ) → ℕ → Type 0
FitBefore form s element count = (xs : List ℕ) → IsInside s.extents xs → place s.extents xs < count → Fits form (element xs)

-- the first element that cannot be stored in this form has this place
pub record IsFirstMisfit (form : Form) (s : Tiling) (element : List ℕ → ℕ) (k : ℕ) : Type 0 where
  pub inside : k < elements s
  pub before : FitBefore form s element k
  pub misfit : (xs : List ℕ) → IsInside s.extents xs → place s.extents xs ≡ k → Fits form (element xs) → ⊥

-- each of some words can be stored in four bytes; the first that cannot has this place
abbrev pub AllNarrow : List ℕ → ℕ → Type 0
AllNarrow words count = (k : ℕ) → k < count → Fits Narrow (slice_index words k)

abbrev pub IsFirstWide : List ℕ → ℕ → Type 0
IsFirstWide words p = (p < length words) × AllNarrow words p × (Fits Narrow (slice_index words p) → ⊥)

-- an array is there, and all its elements can be stored in this form, which in eight bytes every word can
abbrev pub HasFitting : Form → Tiling → Option (List ℕ) → Type 0
HasFitting form s found = IsSomeAnd found (λ bytes. IsArray s bytes × (form ≡ Narrow → FitBefore form s (array_element s bytes) (elements s)))

-- what converting to a form answers to an array file with these contents, or to none
abbrev pub IsConvertAnswer : Form → Tiling → Option (List ℕ) → Result (Unit {0}) ToolFault → Type 0
IsConvertAnswer form s found (Ok done) = HasFitting form s found
IsConvertAnswer form s found (Err NoFlat) = ⊥
IsConvertAnswer form s found (Err (FlatLength n)) = ⊥
IsConvertAnswer form s found (Err (Array fault)) = IsRefused s found fault
IsConvertAnswer form s found (Err (DoesNotFit k)) = (form ≡ Narrow) × IsSomeAnd found (λ bytes. IsArray s bytes × IsFirstMisfit form s (array_element s bytes) k)
IsConvertAnswer form s found (Err Disk) = ⊤
IsConvertAnswer form s found (Err Memory) = HasFitting form s found

-- copying fails only for the disk, or for want of memory
abbrev pub IsOfCopy : Result (Unit {0}) ToolFault → Type 0
IsOfCopy result = IfErr result (λ fault. (fault ≡ Disk) ⊎ (fault ≡ Memory))

-- what the calls never answer, whatever the disk tells
abbrev pub IsOfPack : Result (Unit {0}) ToolFault → Type 0
IsOfPack (Ok done) = ⊤
IsOfPack (Err NoFlat) = ⊤
IsOfPack (Err (FlatLength n)) = ⊤
IsOfPack (Err (Array fault)) = ⊥
IsOfPack (Err (DoesNotFit k)) = ⊥
IsOfPack (Err Disk) = ⊤
IsOfPack (Err Memory) = ⊤

abbrev pub IsOfUnpack : Result (Unit {0}) ToolFault → Type 0
IsOfUnpack (Ok done) = ⊤
IsOfUnpack (Err NoFlat) = ⊥
IsOfUnpack (Err (FlatLength n)) = ⊥
IsOfUnpack (Err (Array fault)) = fault ≢ array_fault.Disk
IsOfUnpack (Err (DoesNotFit k)) = ⊥
IsOfUnpack (Err Disk) = ⊤
IsOfUnpack (Err Memory) = ⊤

abbrev pub IsOfConvert : Form → Result (Unit {0}) ToolFault → Type 0
IsOfConvert form (Ok done) = ⊤
IsOfConvert form (Err NoFlat) = ⊥
IsOfConvert form (Err (FlatLength n)) = ⊥
IsOfConvert form (Err (Array fault)) = fault ≢ array_fault.Disk
IsOfConvert form (Err (DoesNotFit k)) = form ≡ Narrow
IsOfConvert form (Err Disk) = ⊤
IsOfConvert form (Err Memory) = ⊤
