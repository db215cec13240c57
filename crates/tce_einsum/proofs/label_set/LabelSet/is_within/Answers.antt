use Rattle.std.proofs.Common.{arith}
use Rattle.tce_einsum.proofs.LabelSets.{same_meet-is}
use Rattle.tce_einsum.proofs.label_set.LabelSet.is_within.Goals as goal

pub returns : goal.returns
returns c = same_meet-is c.args.self.bits c.args.other.bits (omega (arith, c.well_formed))
