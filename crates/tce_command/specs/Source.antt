-- The file of a specification.
use Rattle.std.specs.Prelude.{◌≡◌, ◌≢◌, ⊤, ℕ, ◌<◌, List, length, Option, Some, None}
use Rattle.std.specs.Option.{IsSomeAnd, ForSome}
use Rattle.std.specs.declared.result.Result.TheVariants.{Ok, Err}
use Rattle.tce_space.specs.Limits.{max_spec_bytes}
use Rattle.tce_spec.specs.Faults.{Fault}
use Rattle.tce_spec.specs.FaultCode.{Shows}
use Rattle.tce_spec.specs.declared.fault.SpecFault.{SpecFault}
use Rattle.tce_spec.specs.declared.fault.SpecFault.TheVariants.{TooLong, Memory}
use Rattle.tce_spec.specs.Specification.{Specification as Specified}
use Rattle.tce_spec.specs.Outcome.{IsOutcome}
use Rattle.tce_outside.specs.Files.{Files, file}
use Rattle.tce_command.specs.declared.refusal.Refusal.{Refusal}
use Rattle.tce_command.specs.declared.refusal.Refusal.TheVariants as refusals
use Rattle.tce_command.specs.declared.refusal.Refusal.TheVariants.{Specification, Missing, Disk}

-- the text specifies this
abbrev pub Specifies : List ℕ → Specified → Type 0
Specifies text s = IsOutcome text (Ok s)

-- the text has this fault, which is not want of memory
pub record HasFault (text : List ℕ) (fault : SpecFault) : Type 0 where
  pub found : Fault
  pub outcome : IsOutcome text (Err found)
  pub shown : Shows (Some found) fault
  pub no_memory : fault ≢ Memory

-- the text is refused unread
abbrev pub IsTooLong : List ℕ → SpecFault → Type 0
IsTooLong text fault = (fault ≡ TooLong) × (max_spec_bytes < length text)

-- why the text in a file with these contents, or in none, is refused, where `Has` says which faults a text has. The disk may fail and memory be wanting at any place
abbrev pub IsTextRefusal : (List ℕ → SpecFault → Type 0) → List ℕ → Option (List ℕ) → Refusal → Type 0
IsTextRefusal Has name found (Missing file) = (file.bytes ≡ name) × (found ≡ None)
IsTextRefusal Has name found (Specification fault) = IsSomeAnd found (λ text. Has text fault)
IsTextRefusal Has name found Disk = ⊤
IsTextRefusal Has name found refusals.Memory = ⊤
IsTextRefusal Has name found refusal = ⊥

-- how a text may be refused, whatever the disk tells: a file that is not there is the one of this name, and a fault is that of some text
abbrev pub MayRefuseText : (List ℕ → SpecFault → Type 0) → List ℕ → Refusal → Type 0
MayRefuseText Has name (Missing file) = file.bytes ≡ name
MayRefuseText Has name (Specification fault) = (text : List ℕ) × Has text fault
MayRefuseText Has name Disk = ⊤
MayRefuseText Has name refusals.Memory = ⊤
MayRefuseText Has name refusal = ⊥

-- why the specification in such a file is refused
abbrev pub IsSourceRefusal : List ℕ → Option (List ℕ) → Refusal → Type 0
IsSourceRefusal name found refusal = IsTextRefusal HasFault name found refusal

abbrev pub MayRefuseSource : List ℕ → Refusal → Type 0
MayRefuseSource name refusal = MayRefuseText HasFault name refusal

-- the file is there, and its text specifies this
abbrev pub HasSpecification : Files → List ℕ → Specified → Type 0
HasSpecification files spec s = IsSomeAnd (file files spec) (λ text. Specifies text s)

-- Of a disk, where it tells its files.

-- the file is there, and has these bytes
abbrev pub HoldsOn : Option Files → List ℕ → List ℕ → Type 0
HoldsOn told name bytes = ForSome told (λ files. file files name ≡ Some bytes)

-- the file specifies this
abbrev pub HasSpecificationOn : Option Files → List ℕ → Specified → Type 0
HasSpecificationOn told name s = ForSome told (λ files. HasSpecification files name s)

-- its text is refused as it may be, and where the disk tells its files for what is there, where `Has` says which faults a text has
abbrev pub IsTextRefusalOn : Option Files → (List ℕ → SpecFault → Type 0) → List ℕ → Refusal → Type 0
IsTextRefusalOn told Has name refusal = MayRefuseText Has name refusal × ForSome told (λ files. IsTextRefusal Has name (file files name) refusal)

-- its specification is refused so
abbrev pub IsSourceRefusalOn : Option Files → List ℕ → Refusal → Type 0
IsSourceRefusalOn told name refusal = MayRefuseSource name refusal × ForSome told (λ files. IsSourceRefusal name (file files name) refusal)
