-- `cert` has one answer.
use Rattle.std.proofs.Common.{ℕ, List}
use Rattle.tce_outside.specs.Files.{Files}
use Rattle.tce_command.proofs.Outcomes.{not_both}
use Rattle.tce_command.specs.Refusals.{IsFree}
use Rattle.tce_command.specs.declared.refusal.Refusal.{Refusal}
use Rattle.tce_plan.specs.CertificateRefusals.{CanCertify, IsCertifyRefusal}

pub granted : (files : Files) (spec : List ℕ) (a : Refusal) → CanCertify files spec → IsCertifyRefusal files spec a → IsFree a
granted files spec a (s, specified) refused = not_both files spec s a specified refused
