use Rattle.tce_space.specs.IndexSet.{minus}
use Rattle.tce_space.proofs.IndexSetLaws.{has-minus}
use Rattle.tce_einsum.proofs.label_set.LabelSet.minus.Goals as goal

pub returns : goal.returns
unfolding minus
returns c i = has-minus c.args.self.bits c.args.other.bits i
