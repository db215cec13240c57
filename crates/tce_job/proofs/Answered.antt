-- What a run answers and leaves, where its tests are passed and changed no file.
use Rattle.std.proofs.Common.{◌≡◌, ℕ, List, Option, Result, Ok, Err, inr}
use Rattle.std.specs.Prelude.{OnOk, IfOk, IfErr}
use Rattle.std.specs.Option.{ForSome}
use Rattle.tce_outside.specs.Files.{Files}
use Rattle.tce_array.specs.declared.form.Form.{Form}
use Rattle.tce_nesting.specs.declared.plan.Plan.{Plan}
use Rattle.tce_search.specs.LeastPlan.{IsLeastPlan}
use Rattle.tce_spec.specs.Specification.{Specification}
use Rattle.tce_job.specs.Opened.{AreOpened, operand_count}
use Rattle.tce_job.specs.declared.fault.JobFault.{JobFault}
use Rattle.tce_job.specs.declared.fault.JobFault.TheVariants.{BudgetTooSmall, IntermediatesTooLarge, Array, Disk, Memory}
use Rattle.tce_job.specs.declared.report.RunReport.{RunReport}
use Rattle.tce_job.specs.Refusals.{IsAffordable, IsFree, CanRun}
use Rattle.tce_job.specs.Prepared.{IsReport}
use Rattle.tce_job.specs.Told.{IsRefusalOf, RefusesExactly, GrantsAble, Takes, MayTake, Reports, LeavesRoom}
use Rattle.tce_job.proofs.Causes.{no_reason, have_operands, can_run}
use Rattle.tce_job.proofs.Made.{room_left}

-- what could be run is refused for a free fault alone
pub exact : {A : Type 0} (told : Option Files) (s : Specification) (budget : ℕ) (forms : List Form) (result : Result A JobFault) → IsAffordable s budget
    → ForSome told (λ files. AreOpened files s forms (operand_count s)) → IfErr result IsFree → RefusesExactly told s budget result
exact told s budget forms (Ok answer) able opened free = λ due real cause. no_reason told s budget due able (λ files is. have_operands files s forms (opened files is)) real cause
exact told s budget forms (Err fault) able opened free = λ due real cause. inr free

pub granted_free : {A : Type 0} (told : Option Files) (s : Specification) (budget : ℕ) (result : Result A JobFault) → IfErr result IsFree → GrantsAble told s budget result
granted_free told s budget (Ok answer) free = λ files is can. tt
granted_free told s budget (Err fault) free = λ files is can. free

free_refusal : (told : Option Files) (s : Specification) (budget : ℕ) (fault : JobFault) → IsFree fault → IsRefusalOf told s budget fault
free_refusal told s budget Disk free = tt
free_refusal told s budget Memory free = tt
free_refusal told s budget (BudgetTooSmall n) free = absurd free
free_refusal told s budget (IntermediatesTooLarge n) free = absurd free
free_refusal told s budget (Array t u) free = absurd free

pub refused_free : {A : Type 0} (told : Option Files) (s : Specification) (budget : ℕ) (result : Result A JobFault) → IfErr result IsFree → IfErr result (IsRefusalOf told s budget)
refused_free told s budget (Ok answer) free = tt
refused_free told s budget (Err fault) free = free_refusal told s budget fault free

pub able_to : {A : Type 0} (told : Option Files) (s : Specification) (budget : ℕ) (forms : List Form) (result : Result A JobFault) → IsAffordable s budget
    → ForSome told (λ files. AreOpened files s forms (operand_count s)) → OnOk result (ForSome told (λ files. CanRun files s budget))
able_to told s budget forms (Ok answer) able opened = can_run told s budget forms able opened
able_to told s budget forms (Err fault) able opened = tt

-- what is taken and reported by a least plan
pub reported : (s : Specification) (budget : ℕ) (plan : Plan) (before after : List (ℕ × ℕ)) (result : Result RunReport JobFault) → IsLeastPlan s.declarations.space s.tree plan
    → OnOk result (Takes s budget plan before after) → IfOk result (IsReport s budget plan) → Reports result s budget before after
reported s budget plan before after (Ok report) least taken report_is = record { plan = plan; least = least; taken = taken; report_is = report_is }
reported s budget plan before after (Err fault) least taken report_is = tt

pub room_of : {A : Type 0} (s : Specification) (budget : ℕ) (plan : Plan) (before after : List (ℕ × ℕ)) (result : Result A JobFault) → IsLeastPlan s.declarations.space s.tree plan
    → IfErr result IsFree → MayTake result s budget plan before after → LeavesRoom result s budget before after
room_of s budget plan before after (Ok answer) least free may = tt
room_of s budget plan before after (Err fault) least free may = room_left fault s budget plan before after least free may

-- an answer is no failure
pub answered : {A E Q : Type 0} {f : E} (x : A) (given : Result A E) → given ≡ Ok x → given ≡ Err f → Q
answered x given is failed = absurd (cc)

pub same_fault : {A B E : Type 0} {f : E} (x : E) (given : Result A E) (told : Result B E) → given ≡ Err x → told ≡ Err x → told ≡ Err f → given ≡ Err f
same_fault x given told is was failed = cc

-- want of memory is no failure
pub wanting : {A Q : Type 0} (given : Result A JobFault) → given ≡ Err Memory → given ≡ Err Disk → Q
wanting given is failed = absurd (cc)
