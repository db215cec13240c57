-- When a plan fits a tree.
use Rattle.std.specs.Prelude.{◌≡◌, ℕ, ◌+◌, ◌<◌, List, length}
use Rattle.std.specs.List.{All}
use Rattle.tce_space.specs.Limits.{cost_limit}
use Rattle.tce_space.specs.IndexSet.{IsWithin}
use Rattle.tce_tree.specs.ContractionTree.{ContractionTree, operations, node_dims}
use Rattle.tce_tree.specs.Fusion.{FusionFits, OrdersFit}
use Rattle.tce_tree.specs.Orders.{lists_of}
use Rattle.tce_fusion.specs.Row.{Row, rows_at}
use Rattle.tce_nesting.specs.declared.plan.Plan.{Plan}

abbrev pub LiesWithin : ℕ → ℕ → Type 0
LiesWithin dims set = IsWithin set dims

-- the classes lie within the dims of the row's node, and the cost is below the limit
pub record RowFits (dims : ℕ) (row : Row) : Type 0 where
  pub classes : All (LiesWithin dims) row.classes
  pub cost : row.cost < cost_limit

-- the rows of each list fit the node of its number
abbrev pub RowsFit : ContractionTree → List (List Row) → Type 0
RowsFit tree tables = (v : ℕ) → v < length tables → All (RowFits (node_dims tree v)) (rows_at tables v)

-- the fusion and the orders fit, each node but the root has a size and a list of rows, and all numbers are below the limit
pub record PlanFits (tree : ContractionTree) (plan : Plan) : Type 0 where
  pub fusion : FusionFits tree plan.fusion.0.items
  pub orders : OrdersFit tree (lists_of plan.orders.0.items)
  pub sizes : length plan.sizes.items + 1 ≡ operations tree
  pub size_limit : All (λ n. n < cost_limit) plan.sizes.items
  pub memory_limit : plan.memory < cost_limit
  pub tables : length plan.tables + 1 ≡ operations tree
  pub rows : RowsFit tree plan.tables
