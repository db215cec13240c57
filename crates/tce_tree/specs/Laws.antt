-- Laws of trees and their values.
use Rattle.std.specs.Prelude.{◌≡◌, ◌↔◌, ◌⊎◌, ℕ, ◌<◌, ◌^◌, IsTrue}
use Rattle.std.specs.declared.option.Option.TheVariants.{Some}
use Rattle.tce_space.specs.Limits.{max_indexes}
use Rattle.tce_space.specs.IndexSet.{has}
use Rattle.tce_tree.specs.ContractionTree.{ContractionTree, dims, operations, parent}
use Rattle.tce_tree.specs.FlatTree.{left_of, right_of}
use Rattle.tce_tree.specs.declared.node.Operand.TheVariants.{Node}
use Rattle.tce_tree.specs.WellFormed.{indexes_below}
use Rattle.tce_tree.specs.Value.{Assignment, Elements, value}

-- the parent of a node is the node that has it as an operand
abbrev pub ParentsHaveOperands : Type 0
ParentsHaveOperands =
    (tree : ContractionTree) (v p : ℕ) → v < operations tree → p < operations tree
    → (parent tree v ≡ Some p) ↔ ((left_of tree p ≡ Node v) ⊎ (right_of tree p ≡ Some (Node v)))

-- the value depends on the numbers of the dims alone
abbrev pub ValueDependsOnDims : Type 0
ValueDependsOnDims =
    (e : Elements) (tree : ContractionTree) (a b : Assignment) → IsTrue (indexes_below max_indexes tree)
    → ((i : ℕ) → IsTrue (has (dims tree) i) → a i ≡ b i) → value e tree a ≡ value e tree b

-- the value is a word
abbrev pub ValueIsWord : Type 0
ValueIsWord = (e : Elements) (tree : ContractionTree) (a : Assignment) → value e tree a < 2 ^ 64
