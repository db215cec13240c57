-- The tests of a run.
use Rattle.std.proofs.Common.{◌≡◌, ◌≢◌, ℕ, ◌≤◌, ◌^◌, Option, Result, Ok, Err, refl, sym, ap, ◌∙◌, subst, arith}
use Rattle.tce_outside.specs.Files.{Files}
use Rattle.tce_outside.specs.Fault.{HasCause, TellsFaults}
use Rattle.tce_array.specs.declared.fault.ArrayFault.{ArrayFault}
use Rattle.tce_array.specs.declared.fault.ArrayFault.TheVariants as array_fault
use Rattle.tce_nesting.specs.declared.plan.Plan.{Plan}
use Rattle.tce_search.specs.LeastPlan.{IsLeastPlan}
use Rattle.tce_spec.specs.Specification.{Specification}
use Rattle.tce_job.specs.Takings.{least_budget}
use Rattle.tce_job.specs.declared.opening.Refused.{Refused}
use Rattle.tce_job.specs.declared.fault.JobFault.{JobFault}
use Rattle.tce_job.specs.declared.fault.JobFault.TheVariants.{BudgetTooSmall, IntermediatesTooLarge, Array, Disk, Memory}
use Rattle.tce_job.specs.Refusals.{IsAffordable, IsCause, MayBeRefused, IsFaultOf, IsOpeningFault}
use Rattle.tce_job.proofs.Causes.{one_memory, least_memory}

-- a least plan within the limits can be afforded
pub affordable : (s : Specification) (budget : ℕ) (plan : Plan) → IsLeastPlan s.declarations.space s.tree plan → least_budget s ≤ budget → plan.memory ≤ 2 ^ 40 → IsAffordable s budget
affordable s budget plan least enough small = record {
  enough = enough;
  small = λ n is. let same = one_memory s n plan.memory is (least_memory s plan least) in omega (arith, small, same);
}

-- a fault of an operand is one of the run
pub opening_fault : (told : Option Files) (s : Specification) (r : Refused) (f : JobFault) → MayBeRefused told s r → IsFaultOf r f → IsOpeningFault told s f
opening_fault told s r f may is = by_fault r.fault refl
  where
    named : r.fault ≢ array_fault.Disk → IsOpeningFault told s f
    named real = subst (IsOpeningFault told s) (sym (is.array real)) (may, real)

    by_fault : (u : ArrayFault) → r.fault ≡ u → IsOpeningFault told s f
    by_fault array_fault.Disk e = subst (IsOpeningFault told s) (sym (is.disk e)) tt
    by_fault array_fault.NoFile e = named (λ d. absurd (cc))
    by_fault (array_fault.BadLength n) e = named (λ d. absurd (cc))
    by_fault (array_fault.BadHeader n) e = named (λ d. absurd (cc))

-- and it is a failure only where that of the operand is
pub disk_fault : (r : Refused) (f : JobFault) → IsFaultOf r f → f ≡ Disk → r.fault ≡ array_fault.Disk
disk_fault r f is failed = by_fault r.fault refl
  where
    other : r.fault ≢ array_fault.Disk → r.fault ≡ array_fault.Disk
    other real = let named : f ≡ Array r.tensor r.fault = is.array real in absurd (cc)

    by_fault : (u : ArrayFault) → r.fault ≡ u → r.fault ≡ array_fault.Disk
    by_fault array_fault.Disk e = e
    by_fault array_fault.NoFile e = other (λ d. absurd (cc))
    by_fault (array_fault.BadLength n) e = other (λ d. absurd (cc))
    by_fault (array_fault.BadHeader n) e = other (λ d. absurd (cc))

pub opening_cause : (told : Option Files) (s : Specification) (budget : ℕ) (f : JobFault) → IsAffordable s budget → IsOpeningFault told s f → IsCause (MayBeRefused told s) s budget f
opening_cause told s budget (Array t u) able p = (able, p.0, p.1)
opening_cause told s budget Disk able p = tt
opening_cause told s budget Memory able p = absurd p
opening_cause told s budget (BudgetTooSmall n) able p = absurd p
opening_cause told s budget (IntermediatesTooLarge n) able p = absurd p

-- the fault of an answer
abbrev pub fault_in : {A : Type 0} → Result A JobFault → JobFault
fault_in (Ok a) = Memory
fault_in (Err f) = f

-- where the answer to an operand that is refused has a cause, the run's has it
pub opening_has_cause : {A : Type 0} (before after : ℕ) (r : Refused) (f : JobFault) (answer : Result A JobFault) → answer ≡ Err f → IsFaultOf r f → HasCause before after (r.fault ≡ array_fault.Disk)
    → HasCause before after (answer ≡ Err Disk)
opening_has_cause before after r f answer here is cause = record { later = cause.later; rose = λ e. cause.rose (disk_fault r f is (ap fault_in (sym here ∙ e))) }

-- and where the run's answer tells no failure, no failure was told of an operand
pub opening_tells : {A : Type 0} (before after : ℕ) (r : Refused) (f : JobFault) (answer : Result A JobFault) → answer ≡ Err f → IsFaultOf r f → TellsFaults before after (r.fault ≡ array_fault.Disk)
    → TellsFaults before after (answer ≡ Err Disk)
opening_tells before after r f answer here is told = λ none. told (λ failed. none (here ∙ ap Err (is.disk failed)))
