-- The worked code, computed by the definitions.
use Rattle.std.proofs.Common.{refl}
use Rattle.tce_base.specs.Word.{word, wrapping_add, wrapping_sub, wrapping_mul}
use Rattle.tce_space.specs.IndexSet.{has, union, minus, with_index, members, count}
use Rattle.tce_tree.specs.ContractionTree.{node, node_dims}
use Rattle.tce_tree.specs.Fusion.{kept_dims}
use Rattle.tce_code.specs.Examples.{WorkedCode, WorkedRuns}

pub worked_code : WorkedCode
unfolding has members count with_index
worked_code = record {
  outer = refl;
  sums = refl;
  sums_read = refl;
  sums_open = refl;
  affine_inside = refl;
  traced = refl;
  constants = refl;
}

pub worked_runs : WorkedRuns
unfolding word wrapping_add wrapping_sub wrapping_mul kept_dims node_dims has members count minus union with_index node
worked_runs = record {
  outer = refl;
  added = refl;
  sums = refl;
  affine_words = refl;
  diagonal = refl;
  constants = refl;
}
