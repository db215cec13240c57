use Rattle.tce_space.proofs.IndexSetLaws.{has-empty}
use Rattle.tce_einsum.proofs.label_set.LabelSet.empty.Goals as goal

pub returns : goal.returns
returns c = has-empty
