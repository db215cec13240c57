-- The worked bands, computed by the definitions.
use Rattle.std.proofs.Common.{refl}
use Rattle.tce_space.specs.IndexSet.{has, union, minus, with_index, members, count}
use Rattle.tce_tree.specs.ContractionTree.{node, node_dims}
use Rattle.tce_tree.specs.Fusion.{kept_dims}
use Rattle.tce_walk.specs.BandExamples.{WorkedBands}

pub worked_bands : WorkedBands
unfolding kept_dims node_dims has members count minus union with_index node
worked_bands = record {
  chained = refl;
  too_early = refl;
  row = refl;
  shared = refl;
  renewed = refl;
  not_renewed = refl;
  grown = refl;
  cleared = refl;
  repeated = refl;
}
