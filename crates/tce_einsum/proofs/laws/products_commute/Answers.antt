use Rattle.tce_einsum.proofs.ValueLaws.{products_commute}
use Rattle.tce_einsum.proofs.laws.products_commute.Goals as goal

pub returns : goal.returns
returns c = products_commute
