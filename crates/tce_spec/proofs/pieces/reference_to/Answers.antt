use Rattle.std.proofs.Common.{◌+◌, ap}
use Rattle.tce_tree.specs.ContractionTree.{leaf, node_dims}
use Rattle.tce_spec.proofs.pieces.reference_to.Goals as goal

pub returns : goal.returns
unfolding node_dims
returns c = ap (leaf (32 + c.args.v)) c.dims_of.ensures
