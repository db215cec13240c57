-- Rows that are the states of some fusion of their subtree.
use Rattle.std.specs.Prelude.{◌≡◌, ℕ, ◌<◌, Option, List, [], ◌∷◌, ◌++◌, length}
use Rattle.std.specs.declared.option.Option.TheVariants.{Some, None}
use Rattle.tce_space.specs.IndexSet.{IsWithin}
use Rattle.tce_space.specs.Space.{IndexSpace}
use Rattle.tce_tree.specs.ContractionTree.{ContractionTree, constant, leaf, operations, node, node_dims}
use Rattle.tce_tree.specs.Fusion.{fused_at, FusionFits}
use Rattle.tce_tree.specs.FlatTree.{left_of, right_of}
use Rattle.tce_tree.specs.declared.node.Operand.{Operand}
use Rattle.tce_tree.specs.declared.node.Operand.TheVariants.{Leaf, Constant, Node}
use Rattle.tce_fusion.specs.Scope.{IsLegal}
use Rattle.tce_tree.specs.Memory.{memory}
use Rattle.tce_fusion.specs.Relation.{above}
use Rattle.tce_fusion.specs.State.{state, cost, HasState}
use Rattle.tce_fusion.specs.Row.{Row}

-- the row is the state of the tree where these sets are fused at its nodes
pub record IsStateOf (space : IndexSpace) (tree : ContractionTree) (sets : List ℕ) (row : Row) : Type 0 where
  pub count : length sets ≡ operations tree
  pub within : (v : ℕ) → v < operations tree → IsWithin (fused_at sets v) (node_dims tree v)
  pub exists : HasState sets 0 tree
  pub relation : (i j : ℕ) → above row.classes i j ≡ state sets 0 tree i j
  pub cost_is : row.cost ≡ cost space sets 0 tree

-- the sets of a node's operands, and then its own
abbrev pub sets_of_step : List ℕ → List ℕ → ℕ → List ℕ
sets_of_step lefts rights fused = lefts ++ (rights ++ fused ∷ [])

-- a legal fusion that fits, and its memory
pub record IsLegalWith (space : IndexSpace) (tree : ContractionTree) (fusion : List ℕ) (total : ℕ) : Type 0 where
  pub fits : FusionFits tree fusion
  pub legal : IsLegal tree fusion
  pub memory_is : memory space tree fusion ≡ total

-- an operand as a tree of its own, and the right operand of a node, which for a sum is a leaf
abbrev pub tree_of_operand : ContractionTree → Operand → ContractionTree
tree_of_operand tree (Leaf reference) = leaf reference.tensor reference.indexes.items
tree_of_operand tree (Constant number) = constant number
tree_of_operand tree (Node v) = node tree v

abbrev pub tree_of_right : ContractionTree → Option Operand → ContractionTree
tree_of_right tree None = constant 0
tree_of_right tree (Some operand) = tree_of_operand tree operand

-- the trees of the operands of node `v`
abbrev pub left_below : ContractionTree → ℕ → ContractionTree
left_below tree v = tree_of_operand tree (left_of tree v)

abbrev pub right_below : ContractionTree → ℕ → ContractionTree
right_below tree v = tree_of_right tree (right_of tree v)
