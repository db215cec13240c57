-- Trees whose loops run over a space.
use Rattle.std.specs.Prelude.{ℕ, ◌<◌, ◌≤◌}
use Rattle.tce_space.specs.Limits.{max_volume}
use Rattle.tce_space.specs.Space.{IndexSpace, volume_of}
use Rattle.tce_tree.specs.ContractionTree.{ContractionTree, operations, node_loops}
use Rattle.tce_tree.specs.WellFormed.{IsDeclaredTree}

-- all indexes of the tree are declared in the space, and the loops of each node have at most 2 ^ 90 iterations
pub record IsMeasured (space : IndexSpace) (tree : ContractionTree) : Type 0 where
  pub declared : IsDeclaredTree space tree
  pub limit : (v : ℕ) → v < operations tree → volume_of space (node_loops tree v) ≤ max_volume
