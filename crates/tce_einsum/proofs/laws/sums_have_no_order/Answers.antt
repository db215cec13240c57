use Rattle.tce_einsum.proofs.ValueLaws.{sums_have_no_order}
use Rattle.tce_einsum.proofs.laws.sums_have_no_order.Goals as goal

pub returns : goal.returns
returns c = sums_have_no_order
