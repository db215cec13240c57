use Rattle.tce_einsum.proofs.ValueLaws.{sums_exchange}
use Rattle.tce_einsum.proofs.laws.sums_exchange.Goals as goal

pub returns : goal.returns
returns c = sums_exchange
