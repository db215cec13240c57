-- Why `check` is refused.
use Rattle.std.specs.Prelude.{◌≡◌, ◌⊎◌, ⊤, ℕ, List, Option, Some, None, Result}
use Rattle.std.specs.Option.{ForSome}
use Rattle.tce_outside.specs.Files.{Files, file}
use Rattle.tce_spec.specs.Specification.{Specification}
use Rattle.tce_command.specs.CommandRefusals.{IsWrittenOver}
use Rattle.tce_command.specs.Report.{trouble_of}
use Rattle.tce_command.specs.declared.trouble.CertTrouble.{CertTrouble}
use Rattle.tce_command.specs.declared.refusal.Refusal.{Refusal}
use Rattle.tce_command.specs.declared.refusal.Refusal.TheVariants.{Missing, Disk, Memory}
use Rattle.tce_command.specs.declared.command_refusal.CommandRefusal.{CommandRefusal}
use Rattle.tce_command.specs.declared.command_refusal.CommandRefusal.TheVariants.{Common, Certificate}
use Rattle.tce_command.specs.Source.{HasSpecification, IsSourceRefusal, MayRefuseSource}
use Rattle.tce_plan.specs.Certificates.{IsTrouble}
use Rattle.std.specs.declared.result.Result.TheVariants.{Err}

-- why a file with these contents, or one that is not there, is not read. The disk may fail and memory be wanting at any place
abbrev pub IsUnread : List ℕ → Option (List ℕ) → Refusal → Type 0
IsUnread name found (Missing file) = (file.bytes ≡ name) × (found ≡ None)
IsUnread name found Disk = ⊤
IsUnread name found Memory = ⊤
IsUnread name found refusal = ⊥

-- how a file may not be read, whatever the disk tells
abbrev pub MayBeUnread : List ℕ → Refusal → Type 0
MayBeUnread name (Missing file) = file.bytes ≡ name
MayBeUnread name Disk = ⊤
MayBeUnread name Memory = ⊤
MayBeUnread name refusal = ⊥

-- the specification is refused; or it is there, and the certificate is not read
abbrev pub IsFileRefusal : Files → List ℕ → List ℕ → Refusal → Type 0
IsFileRefusal files spec cert refusal =
    IsSourceRefusal spec (file files spec) refusal
    ⊎ (((s : Specification) × HasSpecification files spec s) × IsUnread cert (file files cert) refusal)

-- both files are there, and this is wrong with the certificate
pub record HasTrouble (files : Files) (spec cert : List ℕ) (trouble : CertTrouble) : Type 0 where
  pub specification : Specification
  pub specified : HasSpecification files spec specification
  pub text : List ℕ
  pub held : file files cert ≡ Some text
  pub trouble_is : IsTrouble specification text trouble

abbrev pub IsVerifyRefusal : Files → List ℕ → List ℕ → CommandRefusal → Type 0
IsVerifyRefusal files spec cert (Common refusal) = IsFileRefusal files spec cert refusal
IsVerifyRefusal files spec cert (Certificate flaw line) = HasTrouble files spec cert (trouble_of flaw)

-- the line of a refused certificate names indexes by the space of the specification in the file
abbrev pub IsWrittenFor : Option Files → List ℕ → CommandRefusal → Type 0
IsWrittenFor told spec (Common refusal) = ⊤
IsWrittenFor told spec (Certificate flaw line) =
    (s : Specification) × (ForSome told (λ files. HasSpecification files spec s) × IsWrittenOver s.declarations.space (Certificate flaw line))

-- the refusal tells what is wrong with some text as a certificate for the specification, whose indexes its line names
abbrev pub MayHaveTrouble : Specification → CommandRefusal → Type 0
MayHaveTrouble s (Certificate flaw line) = (text : List ℕ) × (IsTrouble s text (trouble_of flaw) × IsWrittenOver s.declarations.space (Certificate flaw line))
MayHaveTrouble s (Common refusal) = ⊥

-- how the command may be refused, whatever the disk tells
abbrev pub MayRefuseVerify : List ℕ → List ℕ → CommandRefusal → Type 0
MayRefuseVerify spec cert (Common refusal) = MayRefuseSource spec refusal ⊎ MayBeUnread cert refusal
MayRefuseVerify spec cert (Certificate flaw line) = (s : Specification) × MayHaveTrouble s (Certificate flaw line)

-- Of a disk: what may be, and where it tells its files what is there.

-- why the command is refused
abbrev pub IsVerifyRefusalOn : Option Files → List ℕ → List ℕ → CommandRefusal → Type 0
IsVerifyRefusalOn told spec cert refusal = MayRefuseVerify spec cert refusal × ForSome told (λ files. IsVerifyRefusal files spec cert refusal)

-- why the file is not read
abbrev pub IsUnreadOn : Option Files → List ℕ → Refusal → Type 0
IsUnreadOn told name refusal = MayBeUnread name refusal × ForSome told (λ files. IsUnread name (file files name) refusal)

-- the answer is that the disk failed
abbrev pub IsDiskFault : {A : Type 0} → Result A CommandRefusal → Type 0
IsDiskFault result = result ≡ Err (Common Disk)
