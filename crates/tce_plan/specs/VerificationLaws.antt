-- `check` has one answer, and accepts what is least.
use Rattle.std.specs.Prelude.{◌≡◌, ◌⊎◌, ℕ, List, Some}
use Rattle.tce_outside.specs.Files.{Files}
use Rattle.tce_fusion.specs.Least.{IsLeast}
use Rattle.tce_command.specs.CommandRefusals.{MayReplace, EndsAlike}
use Rattle.tce_command.specs.declared.command_refusal.CommandRefusal.{CommandRefusal}
use Rattle.tce_plan.specs.VerificationDone.{CanVerify, IsVerified}
use Rattle.tce_plan.specs.VerificationRefusals.{IsVerifyRefusal}

-- what can be verified is not refused, and what is refused has one reason, but where the disk fails or memory is wanting; what is accepted can be verified, and has one report
pub record VerificationsHaveOneAnswer : Type 0 where
  pub granted : (files : Files) (spec cert : List ℕ) (a : CommandRefusal) → CanVerify files spec cert → IsVerifyRefusal files spec cert a → MayReplace a
  pub alone : (files : Files) (spec cert : List ℕ) (a b : CommandRefusal) → IsVerifyRefusal files spec cert a → IsVerifyRefusal files spec cert b → (MayReplace b → ⊥) → MayReplace a ⊎ EndsAlike a b
  pub possible : (files : Files) (spec cert report : List ℕ) → IsVerified (Some files) spec cert report → CanVerify files spec cert
  pub one_report : (files : Files) (spec cert report other : List ℕ) → IsVerified (Some files) spec cert report → IsVerified (Some files) spec cert other → report ≡ other

-- whoever wrote the certificate, no legal fusion takes less memory than that of an accepted plan
abbrev pub AcceptedIsLeast : Type 0
AcceptedIsLeast = (files : Files) (spec cert : List ℕ) (can : CanVerify files spec cert) → IsLeast can.specification.declarations.space can.specification.tree can.plan.fusion.0.items
