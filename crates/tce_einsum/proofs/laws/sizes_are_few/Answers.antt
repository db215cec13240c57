use Rattle.tce_einsum.proofs.FewSizes.{sizes_are_few}
use Rattle.tce_einsum.proofs.laws.sizes_are_few.Goals as goal

pub returns : goal.returns
returns c = sizes_are_few
