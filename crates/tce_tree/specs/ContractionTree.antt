-- Trees of products, additions, subtractions and sums over tensors and constants, and their nodes. Sets of indexes are those of `tce_space`.
use Rattle.std.specs.Prelude.{ℕ, ◌+◌, ◌-◌, ◌&&◌, Bool, true, false, List, [], ◌∷◌, ◌++◌, slice_index_or, nat_lt, nat_le, Option}
use Rattle.std.specs.List.{find, range_with_len}
use Rattle.tce_space.specs.IndexSet.{union, minus, set_of, empty}
pub use Rattle.tce_space.specs.declared.arithmetic.Arithmetic.{Arithmetic}
pub use Rattle.tce_space.specs.declared.arithmetic.Arithmetic.TheVariants.{Multiply as multiply, Add as add, Subtract as subtract}

-- a reference to a tensor with its indexes, a constant, two trees joined by arithmetic, or a sum over a list of indexes
pub data ContractionTree : Type 0 where
  leaf : ℕ → List ℕ → ContractionTree
  constant : ℕ → ContractionTree
  binary : Arithmetic → ContractionTree → ContractionTree → ContractionTree
  sum : List ℕ → ContractionTree → ContractionTree

-- the indexes on which the value depends
abbrev pub dims : ContractionTree → ℕ
dims (leaf tensor indexes) = set_of indexes
dims (constant number) = empty
dims (binary op left right) = union (dims left) (dims right)
dims (sum indexes operand) = minus (dims operand) (set_of indexes)

-- the indexes of the loops that compute it
abbrev pub loops : ContractionTree → ℕ
loops (leaf tensor indexes) = empty
loops (constant number) = empty
loops (binary op left right) = union (dims left) (dims right)
loops (sum indexes operand) = dims operand

-- whether it is a reference to a tensor or a constant, which are no nodes
abbrev pub is_leaf : ContractionTree → Bool
is_leaf (leaf tensor indexes) = true
is_leaf (constant number) = true
is_leaf (binary op left right) = false
is_leaf (sum indexes operand) = false

-- the left or only operand, and the right one; where there is none, a constant, which has no nodes
abbrev pub left_tree : ContractionTree → ContractionTree
left_tree (leaf tensor indexes) = constant 0
left_tree (constant number) = constant 0
left_tree (binary op left right) = left
left_tree (sum indexes operand) = operand

abbrev pub right_tree : ContractionTree → ContractionTree
right_tree (leaf tensor indexes) = constant 0
right_tree (constant number) = constant 0
right_tree (binary op left right) = right
right_tree (sum indexes operand) = constant 0

-- how many nodes there are, which are all trees but the references and constants
abbrev pub operations : ContractionTree → ℕ
operations (leaf tensor indexes) = 0
operations (constant number) = 0
operations (binary op left right) = operations left + operations right + 1
operations (sum indexes operand) = operations operand + 1

-- the nodes in postorder
abbrev pub nodes : ContractionTree → List ContractionTree
nodes (leaf tensor indexes) = []
nodes (constant number) = []
nodes (binary op left right) = nodes left ++ (nodes right ++ binary op left right ∷ [])
nodes (sum indexes operand) = nodes operand ++ sum indexes operand ∷ []

-- node `v` as a tree of its own
unfoldable pub node : ContractionTree → ℕ → ContractionTree
node tree v = slice_index_or (nodes tree) v tree

unfoldable pub node_dims : ContractionTree → ℕ → ℕ
node_dims tree v = dims (node tree v)

unfoldable pub node_loops : ContractionTree → ℕ → ℕ
node_loops tree v = loops (node tree v)

-- node `v` is node `u` or lies below it
unfoldable pub in_subtree : ContractionTree → ℕ → ℕ → Bool
in_subtree tree u v = nat_le v u && nat_lt u (v + operations (node tree u))

-- the least node above `v`
unfoldable pub parent : ContractionTree → ℕ → Option ℕ
parent tree v = find (λ u. in_subtree tree u v) (range_with_len (v + 1) (operations tree - (v + 1)))
