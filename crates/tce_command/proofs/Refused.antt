-- The same refusal in the place of another value.
use Rattle.std.proofs.Common.{◌≡◌, ap, ℕ, Result, Err}
use Rattle.tce_outside.specs.Fault.{HasCause, TellsFaults}
use Rattle.tce_outside.proofs.Causes.{cause_as, told_as}
use Rattle.tce_command.specs.declared.refusal.Refusal.{Refusal}
use Rattle.tce_command.specs.declared.refusal.Refusal.TheVariants.{Disk}

abbrev pub refused : {A : Type 0} → Refusal → Result A Refusal
refused refusal = Err refusal

pub same_refused : {A : Type 0} (a b : Refusal) → refused {A = A} a ≡ refused {A = A} b → a ≡ b
same_refused a b e = cc

-- the disk is told where it was told
pub cause_for : {A B : Type 0} (before after : ℕ) (refusal : Refusal) → HasCause before after (refused {A = A} refusal ≡ refused {A = A} Disk)
    → HasCause before after (refused {A = B} refusal ≡ refused {A = B} Disk)
cause_for {A} {B} before after refusal cause = cause_as before after (λ e. ap (refused {A = A}) (same_refused {A = B} refusal Disk e)) cause

pub told_for : {A B : Type 0} (before after : ℕ) (refusal : Refusal) → TellsFaults before after (refused {A = A} refusal ≡ refused {A = A} Disk)
    → TellsFaults before after (refused {A = B} refusal ≡ refused {A = B} Disk)
told_for {A} {B} before after refusal told = told_as before after (λ e. ap (refused {A = B}) (same_refused {A = A} refusal Disk e)) told
