use Rattle.tce_einsum.proofs.Products.{products_have_no_order}
use Rattle.tce_einsum.proofs.laws.products_have_no_order.Goals as goal

pub returns : goal.returns
returns c = products_have_no_order
