use Rattle.tce_space.proofs.IndexSetLaws.{has-or}
use Rattle.tce_einsum.proofs.label_set.LabelSet.union.Goals as goal

pub returns : goal.returns
returns c i = has-or c.args.self.bits c.args.other.bits i
