-- The plans that are kept of formulas until they are run.
use Rattle.std.specs.Prelude.{◌≡◌, ℕ, ◌≤◌, List, [], ◌∷◌, ◌++◌, length, replicate, Some, slice_get}
use Rattle.tce_space.specs.Limits.{max_memory}
use Rattle.tce_nesting.specs.declared.plan.Plan.{Plan}
use Rattle.tce_search.specs.LeastPlan.{IsLeastPlan}
use Rattle.tce_spec.specs.Specification.{Specification}
use Rattle.tce_batch.specs.declared.plans.KeptPlan.{KeptPlan}

-- all that is kept of a plan
pub record IsKeptOf (plan : Plan) (kept : KeptPlan) : Type 0 where
  pub fusion : kept.fusion ≡ plan.fusion
  pub orders : kept.orders ≡ plan.orders
  pub sizes : kept.sizes ≡ plan.sizes
  pub memory : kept.memory ≡ plan.memory

-- and a plan of it, with no rows
pub record IsPlanOf (kept : KeptPlan) (plan : Plan) : Type 0 where
  pub kept_is : IsKeptOf plan kept
  pub tables : plan.tables ≡ replicate (length kept.sizes.items) []

-- it is kept of a least plan of the specification
pub record IsKeptFor (s : Specification) (kept : KeptPlan) : Type 0 where
  pub plan : Plan
  pub least : IsLeastPlan s.declarations.space s.tree plan
  pub small : plan.memory ≤ max_memory
  pub kept_is : IsKeptOf plan kept

-- the same of the formula with its number
abbrev pub IsKeptIn : List Specification → KeptPlan → Type 0
IsKeptIn batch kept = (s : Specification) → slice_get batch kept.number ≡ Some s → IsKeptFor s kept

-- that of the specification is kept behind the others, with this number
pub record IsKeptBehind (s : Specification) (number : ℕ) (before after : List KeptPlan) : Type 0 where
  pub kept : KeptPlan
  pub numbered : kept.number ≡ number
  pub kept_for : IsKeptFor s kept
  pub added : after ≡ before ++ kept ∷ []

-- that of one formula more is kept behind the others
pub record IsOneMore (batch : List Specification) (number : ℕ) (before after : List KeptPlan) : Type 0 where
  pub kept : KeptPlan
  pub numbered : kept.number ≡ number
  pub kept_in : IsKeptIn batch kept
  pub added : after ≡ before ++ kept ∷ []

-- those of the first formulas are kept in turn, that many of them
pub record AreKept (batch : List Specification) (count : ℕ) (plans : List KeptPlan) : Type 0 where
  pub count_is : length plans ≡ count
  pub each : (k : ℕ) (kept : KeptPlan) → slice_get plans k ≡ Some kept → (kept.number ≡ k) × IsKeptIn batch kept
