use Rattle.std.proofs.Common.{ℕ, ◌<◌, IsPermutation}
use Rattle.tce_space.specs.IndexSet.{members}
use Rattle.tce_tree.specs.ContractionTree.{node_loops}
use Rattle.tce_tree.specs.Fusion.{order_at}
use Rattle.tce_tree.specs.Orders.{lists_of}
use Rattle.tce_tree.proofs.fusion.Orders.fits.Given as goal

abbrev pub invariant-loop-v : goal.invariant-loop-v
invariant-loop-v l = (w : ℕ) → w < l.v → IsPermutation (members (node_loops l.tree w)) (order_at (lists_of l.self.0.items) w)
