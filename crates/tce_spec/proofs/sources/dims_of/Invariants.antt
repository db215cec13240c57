use Rattle.std.proofs.Common.{◌≡◌, take}
use Rattle.tce_space.specs.IndexSet.{members}
use Rattle.tce_tree.specs.ContractionTree.{node_dims}
use Rattle.tce_spec.proofs.sources.dims_of.Given as goal

abbrev pub invariant-loop-index : goal.invariant-loop-index
invariant-loop-index l = l.dims.items ≡ take l.index-index (members (node_dims l.tree l.v))
