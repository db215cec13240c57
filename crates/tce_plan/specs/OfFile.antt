-- What is answered to a file, for a specification that is known.
use Rattle.std.specs.Prelude.{◌≡◌, ℕ, List, Option, Some}
use Rattle.std.specs.Option.{ForSome}
use Rattle.tce_outside.specs.Files.{Files, file}
use Rattle.tce_spec.specs.Specification.{Specification}
use Rattle.tce_command.specs.Report.{trouble_of}
use Rattle.tce_command.specs.Source.{HoldsOn}
use Rattle.tce_command.specs.declared.trouble.CertTrouble.{CertTrouble}
use Rattle.tce_command.specs.declared.command_refusal.CommandRefusal.{CommandRefusal}
use Rattle.tce_command.specs.declared.command_refusal.CommandRefusal.TheVariants.{Common, Certificate}
use Rattle.tce_plan.specs.Certificates.{IsTrouble}
use Rattle.tce_plan.specs.VerificationDone.{report_text}
use Rattle.tce_plan.specs.Judging.{IsAcceptedText}
use Rattle.tce_plan.specs.VerificationRefusals.{IsUnread, MayBeUnread, MayHaveTrouble}

-- the text is the certificate of an accepted plan, and the report is that on its memory
pub record IsVerifiedText (s : Specification) (text report : List ℕ) : Type 0 where
  pub memory : ℕ
  pub accepted : IsAcceptedText s text memory
  pub reported : report ≡ report_text memory

-- a text is such a certificate, where the disk tells its files that of the file
pub record IsVerifiedFor (told : Option Files) (s : Specification) (cert report : List ℕ) : Type 0 where
  pub text : List ℕ
  pub held : HoldsOn told cert text
  pub verified : IsVerifiedText s text report

-- the file is there, and this is wrong with its text
pub record HasTroubleFor (s : Specification) (found : Option (List ℕ)) (trouble : CertTrouble) : Type 0 where
  pub text : List ℕ
  pub held : found ≡ Some text
  pub trouble_is : IsTrouble s text trouble

-- why the file is refused
abbrev pub IsRefusedFor : Specification → List ℕ → Option (List ℕ) → CommandRefusal → Type 0
IsRefusedFor s name found (Common refusal) = IsUnread name found refusal
IsRefusedFor s name found (Certificate flaw line) = HasTroubleFor s found (trouble_of flaw)

-- how it may be refused, whatever the disk tells
abbrev pub MayRefuseFor : Specification → List ℕ → CommandRefusal → Type 0
MayRefuseFor s cert (Common refusal) = MayBeUnread cert refusal
MayRefuseFor s cert (Certificate flaw line) = MayHaveTrouble s (Certificate flaw line)

-- it is refused so, and where the disk tells its files for what is there
abbrev pub IsRefusedForOn : Option Files → Specification → List ℕ → CommandRefusal → Type 0
IsRefusedForOn told s cert refusal = MayRefuseFor s cert refusal × ForSome told (λ files. IsRefusedFor s cert (file files cert) refusal)
