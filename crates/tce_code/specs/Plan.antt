-- What code is generated from beside the tree: a fusion, and loop orders that carry it.
use Rattle.std.specs.Prelude.{ℕ, List}
use Rattle.tce_tree.specs.ContractionTree.{ContractionTree}
use Rattle.tce_tree.specs.Value.{Elements}
use Rattle.tce_code.specs.Execution.{Setting}
use Rattle.tce_tree.specs.Orders.{lists_of}
use Rattle.tce_space.specs.declared.loop_order.LoopOrder.{LoopOrder}

-- the fused indexes of each node, and its loop order
pub record Plan : Type 0 where
  pub fusion : List ℕ
  pub orders : List (List ℕ)

abbrev pub plan_of : List ℕ → List (List ℕ) → Plan
plan_of fusion orders = record { fusion = fusion; orders = orders }

-- the plan of a fusion and of loop orders as the program has them
abbrev pub plan_with : List ℕ → List LoopOrder → Plan
plan_with fusion orders = plan_of fusion (lists_of orders)

abbrev pub setting_of : ContractionTree → Elements → Plan → Setting
setting_of tree e plan = record { tree = tree; fusion = plan.fusion; elements = e }
