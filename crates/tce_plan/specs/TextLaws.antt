-- The commands have one answer.
use Rattle.std.specs.Prelude.{◌⊎◌, ℕ, List}
use Rattle.tce_outside.specs.Files.{Files}
use Rattle.tce_command.specs.Command.{IsHeld}
use Rattle.tce_command.specs.Refusals.{IsFree, SameRefusal}
use Rattle.tce_command.specs.declared.refusal.Refusal.{Refusal}
use Rattle.tce_plan.specs.CertificateRefusals.{CanCertify, IsCertifyRefusal}
use Rattle.tce_plan.specs.EinsumRefusals.{CanWriteEinsum, IsEinsumRefusal}

-- what can be certified is not refused, and what is refused has one reason, but where the disk fails or memory is wanting
pub record CertificatesHaveOneAnswer : Type 0 where
  pub granted : (files : Files) (spec : List ℕ) (a : Refusal) → CanCertify files spec → IsCertifyRefusal files spec a → IsFree a
  pub alone : (files : Files) (spec : List ℕ) (a b : Refusal) → IsCertifyRefusal files spec a → IsCertifyRefusal files spec b → (IsFree b → ⊥) → IsFree a ⊎ SameRefusal a b

-- and the same of einsums
pub record EinsumsHaveOneAnswer : Type 0 where
  pub granted : (text path : List ℕ) (a : Refusal) → IsHeld text → CanWriteEinsum text path → IsEinsumRefusal text path a → IsFree a
  pub alone : (text path : List ℕ) (a b : Refusal) → IsHeld text → IsEinsumRefusal text path a → IsEinsumRefusal text path b → (IsFree b → ⊥) → IsFree a ⊎ SameRefusal a b
