-- The least memory of a tree's fusions.
use Rattle.std.specs.Prelude.{ℕ, ◌≤◌, List}
use Rattle.tce_space.specs.Space.{IndexSpace}
use Rattle.tce_tree.specs.ContractionTree.{ContractionTree}
use Rattle.tce_tree.specs.Fusion.{FusionFits}
use Rattle.tce_tree.specs.Memory.{memory}
use Rattle.tce_fusion.specs.Scope.{IsLegal}

-- a legal fusion of which no legal fusion of the tree has less memory
pub record IsLeast (space : IndexSpace) (tree : ContractionTree) (fusion : List ℕ) : Type 0 where
  pub fits : FusionFits tree fusion
  pub legal : IsLegal tree fusion
  pub least : (other : List ℕ) → FusionFits tree other → IsLegal tree other → memory space tree fusion ≤ memory space tree other
