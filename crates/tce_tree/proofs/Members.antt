-- The dims and loops of a tree are sets of indexes.
use Rattle.std.proofs.Common.{ℕ, arith}
use Rattle.tce_space.specs.IndexSet.{IsIndexSet, set_of}
use Rattle.tce_space.proofs.IndexSetLaws.{union_lt, minus_lt, set_of_lt}
use Rattle.tce_tree.specs.ContractionTree.{ContractionTree, leaf, constant, binary, sum, dims, loops, node, node_dims, node_loops}

pub dims_lt : (tree : ContractionTree) → IsIndexSet (dims tree)
dims_lt (leaf t is) = set_of_lt is
dims_lt (constant n) = omega arith
dims_lt (binary op l r) = union_lt (dims l) (dims r) (dims_lt l) (dims_lt r)
dims_lt (sum is e) = minus_lt (dims e) (set_of is) (dims_lt e)

pub loops_lt : (tree : ContractionTree) → IsIndexSet (loops tree)
loops_lt (leaf t is) = omega arith
loops_lt (constant n) = omega arith
loops_lt (binary op l r) = union_lt (dims l) (dims r) (dims_lt l) (dims_lt r)
loops_lt (sum is e) = dims_lt e

pub node_dims_lt : (tree : ContractionTree) (v : ℕ) → IsIndexSet (node_dims tree v)
unfolding node_dims
node_dims_lt tree v = dims_lt (node tree v)

pub node_loops_lt : (tree : ContractionTree) (v : ℕ) → IsIndexSet (node_loops tree v)
unfolding node_loops
node_loops_lt tree v = loops_lt (node tree v)
