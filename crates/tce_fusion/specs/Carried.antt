-- Fusions that are carried by loop orders as the program has them.
use Rattle.std.specs.Prelude.{ℕ, ◌<◌, List}
use Rattle.tce_space.specs.declared.loop_order.LoopOrder.{LoopOrder}
use Rattle.tce_tree.specs.ContractionTree.{ContractionTree}
use Rattle.tce_tree.specs.Fusion.{Carries}
use Rattle.tce_tree.specs.Orders.{lists_of, LeadsUp}

abbrev pub IsCarried : ContractionTree → List ℕ → List LoopOrder → Type 0
IsCarried tree fusion orders = Carries tree fusion (lists_of orders)

-- the fused set of node `v` is not, in one sequence, the leading part of its own and its parent's order
abbrev pub IsNotCarriedAt : ContractionTree → List ℕ → List LoopOrder → ℕ → Type 0
IsNotCarriedAt tree fusion orders v = LeadsUp tree fusion (lists_of orders) v → ⊥

-- that of each node below `v` is
abbrev pub AreCarriedBelow : ContractionTree → List ℕ → List LoopOrder → ℕ → Type 0
AreCarriedBelow tree fusion orders v = (w : ℕ) → w < v → LeadsUp tree fusion (lists_of orders) w
