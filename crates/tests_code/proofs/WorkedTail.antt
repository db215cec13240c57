-- The worked bounds, computed by the definitions.
use Rattle.std.proofs.Common.{refl}
use Rattle.tce_space.specs.IndexSet.{has, members, count, with_index}
use Rattle.tce_tree.specs.ContractionTree.{node, in_subtree, parent}
use Rattle.tce_walk.specs.TailExamples.{WorkedTouches}

pub worked_touches : WorkedTouches
unfolding has members count with_index node in_subtree parent
worked_touches = record {
  tiled = refl;
  constants = refl;
  joined = refl;
  apart = refl;
  nested = refl;
}
