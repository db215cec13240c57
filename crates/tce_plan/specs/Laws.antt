-- `plan` has one answer.
use Rattle.std.specs.Prelude.{◌≡◌, ◌⊎◌, ℕ, List, Some}
use Rattle.tce_outside.specs.Files.{Files}
use Rattle.tce_command.specs.Refusals.{IsFree, SameRefusal}
use Rattle.tce_command.specs.declared.refusal.Refusal.{Refusal}
use Rattle.tce_plan.specs.Done.{IsPlanned}
use Rattle.tce_plan.specs.Refusals.{CanPlan, IsPlanRefusal}

-- what can be planned is not refused, and what is refused has one reason, but where the disk fails or memory is wanting; what is reported could be planned, and all reports of a file state the same memory
pub record PlansHaveOneAnswer : Type 0 where
  pub granted : (files : Files) (spec : List ℕ) (a : Refusal) → CanPlan files spec → IsPlanRefusal files spec a → IsFree a
  pub alone : (files : Files) (spec : List ℕ) (a b : Refusal) → IsPlanRefusal files spec a → IsPlanRefusal files spec b → (IsFree b → ⊥) → IsFree a ⊎ SameRefusal a b
  pub possible : (files : Files) (spec report : List ℕ) → IsPlanned (Some files) spec report → CanPlan files spec
  pub one_memory : (files : Files) (spec report other : List ℕ) (a : IsPlanned (Some files) spec report) (b : IsPlanned (Some files) spec other) → a.planned.plan.memory ≡ b.planned.plan.memory
