-- What the plan that is found keeps.
use Rattle.std.specs.Prelude.{◌≡◌, ⊤, ℕ, ◌+◌, ◌-◌, ◌<◌, ◌≤◌, List, length, slice_index}
use Rattle.std.specs.List.{All}
use Rattle.tce_space.specs.Limits.{cost_limit}
use Rattle.tce_space.specs.Space.{IndexSpace}
use Rattle.tce_tree.specs.ContractionTree.{ContractionTree, operations}
use Rattle.tce_tree.specs.Fusion.{FusionFits, OrdersFit, Carries, order_at}
use Rattle.tce_tree.specs.Orders.{lists_of}
use Rattle.tce_tree.specs.Memory.{size_at, memory}
use Rattle.tce_fusion.specs.Scope.{IsLegal, IsStandardAt}
use Rattle.tce_fusion.specs.Least.{IsLeast}
use Rattle.tce_fusion.specs.Row.{Row}
use Rattle.tce_fusion.specs.Cover.{Covers, ArePruned}
use Rattle.tce_nesting.specs.declared.plan.Plan.{Plan}
use Rattle.tce_nesting.specs.Plan.{PlanFits}
use Rattle.tce_search.specs.declared.plan.Answer.{Answer}
use Rattle.tce_search.specs.declared.plan.Answer.TheVariants.{Least, AtLeast}

-- the orders are the standard ones of the plan's fusion
abbrev pub HasStandardOrders : ContractionTree → Plan → Type 0
HasStandardOrders tree plan =
    (v : ℕ) → v < operations tree → IsStandardAt tree plan.fusion.0.items v (order_at (lists_of plan.orders.0.items) v)

-- the size of each node but the root is the number of elements that it keeps
abbrev pub HasSizes : IndexSpace → ContractionTree → Plan → Type 0
HasSizes space tree plan =
    (v : ℕ) → v < operations tree - 1 → slice_index plan.sizes.items v ≡ size_at space tree plan.fusion.0.items v

-- a plan of a least fusion, with its standard orders, which carry it, its sizes and its memory, and with pruned tables that cover all fusions
pub record IsLeastPlan (space : IndexSpace) (tree : ContractionTree) (plan : Plan) : Type 0 where
  pub fits : PlanFits tree plan
  pub least : IsLeast space tree plan.fusion.0.items
  pub carried : Carries tree plan.fusion.0.items (lists_of plan.orders.0.items)
  pub standard : HasStandardOrders tree plan
  pub sizes : HasSizes space tree plan
  pub memory_is : plan.memory ≡ memory space tree plan.fusion.0.items
  pub covers : Covers space tree plan.tables plan.memory
  pub pruned : ArePruned tree plan.tables

-- each legal fusion takes at least as much memory
abbrev pub IsBelowFusions : IndexSpace → ContractionTree → ℕ → Type 0
IsBelowFusions space tree limit = (fusion : List ℕ) → FusionFits tree fusion → IsLegal tree fusion → limit ≤ memory space tree fusion

-- each legal fusion takes more memory than the limit
abbrev pub IsExceeded : IndexSpace → ContractionTree → ℕ → Type 0
IsExceeded space tree limit = (fusion : List ℕ) → FusionFits tree fusion → IsLegal tree fusion → limit < memory space tree fusion

-- a round answers with a plan of a least fusion, which takes less memory than the ceiling, or with a number that no legal fusion is below
abbrev pub IsAnswer : IndexSpace → ContractionTree → ℕ → Answer → Type 0
IsAnswer space tree ceiling (Least plan) = IsLeastPlan space tree plan × (plan.memory < ceiling)
IsAnswer space tree ceiling (AtLeast least) = IsBelowFusions space tree least

-- that number is no less than the ceiling, where nothing was hidden
abbrev pub IsPlainAnswer : ℕ → Answer → Type 0
IsPlainAnswer ceiling (Least plan) = ⊤
IsPlainAnswer ceiling (AtLeast least) = ceiling ≤ least

-- the plan of a fusion with these tables: its standard orders, its sizes and its memory
pub record IsPlanOf (space : IndexSpace) (tree : ContractionTree) (fusion : List ℕ) (tables : List (List Row)) (plan : Plan) : Type 0 where
  pub fusion_is : plan.fusion.0.items ≡ fusion
  pub orders_fit : OrdersFit tree (lists_of plan.orders.0.items)
  pub carried : Carries tree plan.fusion.0.items (lists_of plan.orders.0.items)
  pub standard : HasStandardOrders tree plan
  pub count : length plan.sizes.items + 1 ≡ operations tree
  pub sizes : HasSizes space tree plan
  pub size_limit : All (λ n. n < cost_limit) plan.sizes.items
  pub memory_is : plan.memory ≡ memory space tree plan.fusion.0.items
  pub memory_limit : plan.memory < cost_limit
  pub tables_are : plan.tables ≡ tables
