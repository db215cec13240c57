use Rattle.tce_einsum.proofs.ValueLaws.{sums_join}
use Rattle.tce_einsum.proofs.laws.sums_join.Goals as goal

pub returns : goal.returns
returns c = sums_join
