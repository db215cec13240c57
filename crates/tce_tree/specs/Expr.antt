-- What an expression of the program stands for: a tree without places in memory.
use Rattle.tce_tree.specs.declared.expr.Expr.{Expr, Leaf, Constant, Product', Add', Sub', Sum'}
use Rattle.tce_tree.specs.ContractionTree.{ContractionTree, leaf, constant, binary, sum, multiply, add, subtract}

abbrev pub tree_of : Expr → ContractionTree
tree_of (Leaf l) = leaf l.tensor l.indexes.items
tree_of (Constant number) = constant number
tree_of (Product' p left q right) = binary multiply (tree_of left) (tree_of right)
tree_of (Add' p left q right) = binary add (tree_of left) (tree_of right)
tree_of (Sub' p left q right) = binary subtract (tree_of left) (tree_of right)
tree_of (Sum' indexes p operand) = sum indexes.items (tree_of operand)
