-- Trees cut into pieces: a cut node's value is stored in an array, which the piece above it reads as it reads a tensor.
use Rattle.std.specs.Prelude.{◌≡◌, ℕ, ◌+◌, ◌<◌, ◌&&◌, ◌||◌, ◌==◌, not, nat_lt, Bool, true, false, IsTrue, if◌then◌else◌}
use Rattle.tce_space.specs.Limits.{max_tensors}
use Rattle.tce_space.specs.IndexSet.{members}
use Rattle.tce_tree.specs.ContractionTree.{ContractionTree, leaf, constant, binary, sum, dims, operations, node, in_subtree}
use Rattle.tce_tree.specs.FlatTree.{first_number_of}

-- a set of nodes, as the test of its members
abbrev pub Cuts : Type 0
Cuts = ℕ → Bool

-- the array of node `v` among the tensors, behind all that may be declared
abbrev pub stored : ℕ → ℕ
stored v = max_tensors + v

-- the array of node `v`, which is this tree, with the node's dims in order
abbrev pub reference_to : ℕ → ContractionTree → ContractionTree
reference_to v tree = leaf (stored v) (members (dims tree))

-- what stands for node `v`, which is this tree: its array where the node is cut, and else what is left of it
abbrev pub unless_cut : Cuts → ℕ → ContractionTree → ContractionTree → ContractionTree
unless_cut cut v tree rest = if cut v then reference_to v tree else rest

-- what is left of a tree, whose nodes are numbered from `first` on, where each cut node is its array
abbrev pub rest_of : Cuts → ℕ → ContractionTree → ContractionTree
rest_of cut first (leaf tensor indexes) = leaf tensor indexes
rest_of cut first (constant number) = constant number
rest_of cut first (binary op left right) =
    unless_cut cut (first + operations left + operations right) (binary op left right)
    (binary op (rest_of cut first left) (rest_of cut (first + operations left) right))
rest_of cut first (sum indexes operand) = unless_cut cut (first + operations operand) (sum indexes operand) (sum indexes (rest_of cut first operand))

-- all cuts but that of node `v`, and all cuts and that of node `v`
abbrev pub except : Cuts → ℕ → Cuts
except cut v u = cut u && not (u == v)

-- the piece whose root is node `v`: its subtree, where each other cut node is its array
unfoldable pub piece : ContractionTree → Cuts → ℕ → ContractionTree
piece tree cut v = rest_of (except cut v) (first_number_of tree v) (node tree v)

-- the roots of the pieces are the cut nodes and the last one
abbrev pub is_root : ContractionTree → Cuts → ℕ → Bool
is_root tree cut r = cut r || r + 1 == operations tree

-- node `r` is the root of the piece in which node `v` stands: the least root at `v` or above
pub record IsRootOver (tree : ContractionTree) (cut : Cuts) (v r : ℕ) : Type 0 where
  pub inside : r < operations tree
  pub over : IsTrue (in_subtree tree r v)
  pub root : IsTrue (is_root tree cut r)
  pub least : (u : ℕ) → u < r → IsTrue (in_subtree tree u v) → is_root tree cut u ≡ false

-- whether a tree refers to tensors below `n` alone
abbrev pub tensors_below : ℕ → ContractionTree → Bool
tensors_below n (leaf tensor indexes) = nat_lt tensor n
tensors_below n (constant number) = true
tensors_below n (binary op left right) = tensors_below n left && tensors_below n right
tensors_below n (sum indexes operand) = tensors_below n operand
