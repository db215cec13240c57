-- The worked trees, computed by the definitions.
use Rattle.std.proofs.Common.{refl}
use Rattle.tce_base.specs.Word.{word, wrapping_add, wrapping_sub, wrapping_mul}
use Rattle.tce_space.specs.IndexSet.{has, union, minus, with_index, members, count, volume}
use Rattle.tce_tree.specs.ContractionTree.{node, node_dims, node_loops, in_subtree, parent}
use Rattle.tce_tree.specs.Faults.{fault_of, sum_fault, loops_fault}
use Rattle.tce_tree.specs.Examples.{WorkedNodes, WorkedValues, WorkedFaults}

pub worked_nodes : WorkedNodes
unfolding node node_dims node_loops in_subtree parent union minus with_index
worked_nodes = record {
  outer_nodes = refl;
  outer_dims = refl;
  outer_parents = refl;
  sums_nodes = refl;
  sums_dims = refl;
  sums_loops = refl;
  sums_parents = refl;
  long_dims = refl;
  long_loops = refl;
  long_parents = refl;
}

pub worked_values : WorkedValues
unfolding word wrapping_add wrapping_sub wrapping_mul
worked_values = record {
  outer = refl;
  added = refl;
  sums = refl;
  long = refl;
  wrapped = refl;
  affine_words = refl;
  diagonal = refl;
  constants = refl;
}

pub worked_faults : WorkedFaults
unfolding fault_of sum_fault loops_fault has union minus with_index members count volume
worked_faults = record {
  accepted = refl;
  nothing = refl;
  absent = refl;
  first_absent = refl;
  absent_constant = refl;
  many_loops = refl;
  large_volume = refl;
}
