use Rattle.tce_einsum.proofs.HasValue.{specifications_have_the_value}
use Rattle.tce_einsum.proofs.laws.specifications_have_the_value.Goals as goal

pub returns : goal.returns
returns c = specifications_have_the_value
