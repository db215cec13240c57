use Rattle.tce_spill.proofs.NodeSets.{has_without}
use Rattle.tce_spill.proofs.node_set.without_node.Goals as goal

pub returns : goal.returns
returns c u = has_without c.args.nodes c.args.v u c.requires
