-- What one command writes another accepts.
use Rattle.std.specs.Prelude.{◌≡◌, ℕ, List, Option, Some}
use Rattle.std.specs.Option.{IsSomeAnd}
use Rattle.tce_outside.specs.Files.{Files}
use Rattle.tce_command.specs.Command.{NamesSpec, NamesCertificate}
use Rattle.tce_plan.specs.CertificateDone.{IsCertified}
use Rattle.tce_plan.specs.VerificationDone.{CanVerify}

-- the certificate that is written for a specification can be verified for it, and has the same plan
abbrev pub WrittenIsVerified : Type 0
WrittenIsVerified =
    (files : Files) (after : Option Files) (spec cert report : List ℕ) → NamesSpec spec → NamesCertificate cert → (written : IsCertified (Some files) after spec cert report)
    → IsSomeAnd after (λ left. (can : CanVerify left spec cert) × (can.plan ≡ written.certified.plan))
