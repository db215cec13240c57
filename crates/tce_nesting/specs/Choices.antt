-- The choices of a node: the sets that may be fused above it.
use Rattle.std.specs.Prelude.{◌≡◌, ℕ, List, map}
use Rattle.std.specs.List.{All}
use Rattle.tce_space.specs.IndexSet.{minus}
use Rattle.tce_space.specs.Space.{IndexSpace, volume_of}
use Rattle.tce_tree.specs.ContractionTree.{ContractionTree, node_dims}
use Rattle.tce_nesting.specs.Subsets.{AreSubsets}
use Rattle.tce_nesting.specs.declared.choice.Choice.{Choice}

-- the elements that node `v` keeps where the choice's set is fused
abbrev pub LeavesSize : IndexSpace → ContractionTree → ℕ → Choice → Type 0
LeavesSize space tree v choice = choice.size ≡ volume_of space (minus (node_dims tree v) choice.fused)

-- one choice for each subset of the dims, in order
pub record AreChoices (space : IndexSpace) (tree : ContractionTree) (v : ℕ) (choices : List Choice) : Type 0 where
  pub sets : AreSubsets (node_dims tree v) (map (λ choice. choice.fused) choices)
  pub sizes : All (LeavesSize space tree v) choices
