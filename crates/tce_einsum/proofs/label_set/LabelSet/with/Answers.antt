use Rattle.tce_einsum.proofs.LabelSets.{has_with}
use Rattle.tce_einsum.proofs.label_set.LabelSet.with.Goals as goal

pub returns : goal.returns
returns c i = has_with c.args.self.bits c.args.label i c.requires
