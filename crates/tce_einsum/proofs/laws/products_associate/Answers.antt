use Rattle.tce_einsum.proofs.ValueLaws.{products_associate}
use Rattle.tce_einsum.proofs.laws.products_associate.Goals as goal

pub returns : goal.returns
returns c = products_associate
