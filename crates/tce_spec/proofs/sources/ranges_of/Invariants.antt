use Rattle.std.proofs.Common.{◌≡◌, map, take}
use Rattle.tce_space.specs.IndexSet.{members}
use Rattle.tce_space.specs.Space.{index_at}
use Rattle.tce_tree.specs.ContractionTree.{node_dims}
use Rattle.tce_spec.proofs.sources.ranges_of.Given as goal

abbrev pub invariant-loop-index : goal.invariant-loop-index
invariant-loop-index l = l.ranges.items ≡ map (λ i. (index_at l.space i).of_range) (take l.index-index (members (node_dims l.tree l.v)))
