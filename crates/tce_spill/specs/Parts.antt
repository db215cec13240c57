-- Parts of trees, and the memory that their fusions take.
use Rattle.std.specs.Prelude.{◌≡◌, ◌⊎◌, ℕ, ◌≤◌, List}
use Rattle.tce_space.specs.IndexSet.{set_of}
use Rattle.tce_space.specs.Space.{IndexSpace}
use Rattle.tce_tree.specs.ContractionTree.{ContractionTree, leaf, constant, binary, sum, left_tree, right_tree, dims}
use Rattle.tce_tree.specs.Fusion.{FusionFits}
use Rattle.tce_tree.specs.Memory.{memory}
use Rattle.tce_fusion.specs.Scope.{IsLegal}

-- the first tree is what is left of the second, where some subtrees are tensors of the same dims
abbrev pub IsRest : ContractionTree → ContractionTree → Type 0
IsRest (leaf tensor indexes) tree = set_of indexes ≡ dims tree
IsRest (constant number) tree = tree ≡ constant number
IsRest (binary op left right) tree = (tree ≡ binary op (left_tree tree) (right_tree tree)) × (IsRest left (left_tree tree) × IsRest right (right_tree tree))
IsRest (sum indexes operand) tree = (tree ≡ sum indexes (left_tree tree)) × IsRest operand (left_tree tree)

-- the first tree is what is left of a subtree of the second
abbrev pub IsPart : ContractionTree → ContractionTree → Type 0
IsPart part (leaf tensor indexes) = IsRest part (leaf tensor indexes)
IsPart part (constant number) = IsRest part (constant number)
IsPart part (binary op left right) = IsRest part (binary op left right) ⊎ (IsPart part left ⊎ IsPart part right)
IsPart part (sum indexes operand) = IsRest part (sum indexes operand) ⊎ IsPart part operand

-- a legal fusion of the tree takes at most so much memory, and so does a least one
pub record FitsMemory (space : IndexSpace) (tree : ContractionTree) (limit : ℕ) : Type 0 where
  pub fusion : List ℕ
  pub fits : FusionFits tree fusion
  pub legal : IsLegal tree fusion
  pub cheap : memory space tree fusion ≤ limit
