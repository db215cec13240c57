-- Which call is the cause of a failure, and which one tells its faults.
use Rattle.std.proofs.Common.{◌≡◌, ℕ, ◌≤◌, true, Result, Ok, Err, refl, ◌∙◌, subst, inl, inr, arith}
use Rattle.tce_outside.specs.Fault.{Rose, HasCause, TellsFaults}

-- ---- one call

-- the same call with another answer
pub cause_as : {P Q : Type 0} (a b : ℕ) → (Q → P) → HasCause a b P → HasCause a b Q
cause_as a b from cause = record { later = cause.later; rose = λ failed. cause.rose (from failed) }

pub told_as : {P Q : Type 0} (a b : ℕ) → (P → Q) → TellsFaults a b P → TellsFaults a b Q
told_as a b covers told = λ none. told (λ failed. none (covers failed))

-- a call that failed, whatever is answered
pub cause_of : {P : Type 0} (a b : ℕ) → HasCause a b (true ≡ true) → HasCause a b P
cause_of a b cause = cause_as a b (λ failed. refl) cause

-- no failure is answered, and the count is what it was
pub no_cause : {P : Type 0} (a b : ℕ) → b ≡ a → (P → ⊥) → HasCause a b P
no_cause a b same never = record { later = omega (arith, same); rose = λ failed. absurd (never failed) }

-- a call that is answered had no fault
pub answered_quiet : {A E : Type 0} {f : E} (a b : ℕ) (x : A) (given : Result A E) → given ≡ Ok x → TellsFaults a b (given ≡ Err f) → b ≡ a
answered_quiet a b x given is told = told (λ failed. absurd (cc))

-- ---- one call after others

rose_since : (a b c : ℕ) → a ≤ b → Rose b c → Rose a c
rose_since a b c later (inl rose) = inl (omega arith)
rose_since a b c later (inr end) = inr end

pub cause_since : {P : Type 0} (a b c : ℕ) → a ≤ b → HasCause b c P → HasCause a c P
cause_since a b c later cause = record { later = omega (arith, later, cause.later); rose = λ failed. rose_since a b c later (cause.rose failed) }

-- the calls before had no faults
pub cause_after : {P : Type 0} (a b c : ℕ) → b ≡ a → HasCause b c P → HasCause a c P
cause_after {P} a b c same cause = subst (λ n. HasCause n c P) same cause

pub told_after : {P : Type 0} (a b c : ℕ) → b ≡ a → TellsFaults b c P → TellsFaults a c P
told_after a b c same told = λ none. told none ∙ same

-- a call that failed after calls without faults
pub failed_after : {P : Type 0} (a b c : ℕ) → b ≡ a → HasCause b c (true ≡ true) → HasCause a c P
failed_after a b c same cause = cause_after a b c same (cause_of b c cause)
