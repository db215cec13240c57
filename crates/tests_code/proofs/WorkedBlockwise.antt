-- The worked parts, computed by the definitions.
use Rattle.std.proofs.Common.{refl}
use Rattle.tce_base.specs.Word.{word, wrapping_add, wrapping_mul}
use Rattle.tce_space.specs.IndexSet.{has, union, minus, with_index, members, count}
use Rattle.tce_tree.specs.ContractionTree.{node, node_dims}
use Rattle.tce_tree.specs.Fusion.{kept_dims}
use Rattle.tce_walk.specs.PartExamples.{WorkedParts}

pub worked_parts : WorkedParts
unfolding word wrapping_add wrapping_mul kept_dims node_dims has members count minus union with_index node
worked_parts = record {
  summed_first = refl;
  summed = refl;
  set_first = refl;
  set = refl;
  set_row = refl;
  joined_products = refl;
  joined_sums_first = refl;
  joined_sums = refl;
  sums_alone = refl;
}
