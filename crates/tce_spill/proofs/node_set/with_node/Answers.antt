use Rattle.tce_spill.proofs.NodeSets.{has_with}
use Rattle.tce_spill.proofs.node_set.with_node.Goals as goal

pub returns : goal.returns
returns c u = has_with c.args.nodes c.args.v u c.requires
