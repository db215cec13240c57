-- The root of a tree is its last node.
use Rattle.std.proofs.Common.{◌≡◌, ℕ, ◌+◌, ◌≤◌, ap}
use Rattle.tce_tree.specs.ContractionTree.{ContractionTree, dims, operations, node_dims}
use Rattle.tce_tree.proofs.Nodes.{node-root}

pub root_dims : (tree : ContractionTree) (v : ℕ) → operations tree ≤ v + 1 → node_dims tree v ≡ dims tree
unfolding node_dims
root_dims tree v last = ap dims (node-root tree v last)
