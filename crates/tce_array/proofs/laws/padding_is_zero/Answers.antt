use Rattle.tce_array.proofs.Padding.{padding_is_zero}
use Rattle.tce_array.proofs.laws.padding_is_zero.Goals as goal

pub returns : goal.returns
returns c = padding_is_zero
