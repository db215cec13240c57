-- What a command answers, from the answer of what it calls.
use Rattle.std.proofs.Common.{◌≡◌, ◌≢◌, refl, sym, ap, subst, ◌∙◌, ◌⊎◌, inl, inr, ℕ, List, Result, Ok, Err, IfOk, IfErr}
use Rattle.std.specs.Prelude.{⊤}
use Rattle.tce_outside.specs.Fault.{HasCause, TellsFaults}
use Rattle.tce_tools.proofs.Apart.{same_err}
use Rattle.tce_command.specs.Command.{Command}
use Rattle.tce_command.specs.declared.refusal.Refusal.{Refusal}
use Rattle.tce_command.specs.declared.refusal.Refusal.TheVariants.{Disk}
use Rattle.tce_command.specs.declared.command_refusal.CommandRefusal.{CommandRefusal}
use Rattle.tce_command.specs.declared.command_refusal.CommandRefusal.TheVariants.{Common}
use Rattle.tce_top.specs.Performed.{Carries, Finishes, Refuses, Seen}

-- the command is done or refused, by its answer
pub record Performs {S : Type 0} (items : S → List ℕ) (command : Command) (before after : Seen) (answer : Result S CommandRefusal) : Type 0 where
  pub done : IfOk answer (λ report. Finishes command before after (items report))
  pub refused : IfErr answer (Refuses command before after)

carried_as : {T S E : Type 0} (bytes : T → List ℕ) (items : S → List ℕ) (told : E → CommandRefusal) (command : Command) (before after : Seen) (given : Result T E) (answer : Result S CommandRefusal)
    → Carries bytes items told given answer
    → ((text : T) → given ≡ Ok text → Finishes command before after (bytes text))
    → ((cause : E) → given ≡ Err cause → Refuses command before after (told cause))
    → Performs items command before after answer
carried_as bytes items told command before after (Ok text) (Ok report) same done refused = record { done = subst (Finishes command before after) (sym same) (done text refl); refused = tt }
carried_as bytes items told command before after (Err cause) (Err refusal) same done refused = record { done = tt; refused = subst (Refuses command before after) (sym same) (refused cause refl) }
carried_as bytes items told command before after (Ok text) (Err refusal) same done refused = absurd same
carried_as bytes items told command before after (Err cause) (Ok report) same done refused = absurd same

-- the same of a command that is this one
pub carried : {T S E : Type 0} (bytes : T → List ℕ) (items : S → List ℕ) (told : E → CommandRefusal) (command this : Command) (before after : Seen) (given : Result T E) (answer : Result S CommandRefusal)
    → command ≡ this → Carries bytes items told given answer
    → ((text : T) → given ≡ Ok text → Finishes this before after (bytes text))
    → ((cause : E) → given ≡ Err cause → Refuses this before after (told cause))
    → Performs items command before after answer
carried bytes items told command this before after given answer is same done refused =
    subst (λ k. Performs items k before after answer) (sym is) (carried_as bytes items told this before after given answer same done refused)

pub of_ok : {T E : Type 0} (P : T → Type 0) (given : Result T E) (text : T) → given ≡ Ok text → IfOk given P → P text
of_ok P given text is holds = subst (λ x. IfOk x P) is holds

pub of_err : {T E : Type 0} (P : E → Type 0) (given : Result T E) (cause : E) → given ≡ Err cause → IfErr given P → P cause
of_err P given cause is holds = subst (λ x. IfErr x P) is holds

pub if_err : {T E : Type 0} (P : E → Type 0) (given : Result T E) → ((cause : E) → P cause) → IfErr given P
if_err P (Ok text) all = tt
if_err P (Err cause) all = all cause

-- A refusal for a failing disk.

abbrev IsDisk : Refusal → Type 0
IsDisk Disk = ⊤
IsDisk r = ⊥

is_disk : (r : Refusal) → (r ≡ Disk) ⊎ (IsDisk r → ⊥)
is_disk Disk = inl refl
is_disk r = inr (λ disk. disk)

pub disk_or_same : (A : Type 0) (r : Refusal) → (r ≢ Disk → A) → (Common r ≡ Common Disk) ⊎ A
disk_or_same A r same =
    elim (is_disk r) [
      | inl disk ↦ inl (ap Common disk)
      | inr other ↦ inr (same (λ disk. other (subst IsDisk (sym disk) tt)))
    ]

same_refusal : (a b : Refusal) → Common a ≡ Common b → a ≡ b
same_refusal a b same = cc

-- Faults, by a fault of what is called that is told as a failing disk.

pub cause_as : {T : Type 0} (given : Result T Refusal) (r : Refusal) (before after : ℕ) → given ≡ Err r → HasCause before after (given ≡ Err Disk) → HasCause before after (Common r ≡ Common Disk)
cause_as given r before after is cause = record { later = cause.later; rose = λ failed. cause.rose (is ∙ ap Err (same_refusal r Disk failed)) }

pub told_as : {T : Type 0} (given : Result T Refusal) (r : Refusal) (before after : ℕ) → given ≡ Err r → TellsFaults before after (given ≡ Err Disk) → TellsFaults before after (Common r ≡ Common Disk)
told_as given r before after is told = λ none. told (λ failed. none (ap Common (same_err given r Disk is failed)))
