use Rattle.tce_einsum.proofs.Numbers.{every_text_has_its_value}
use Rattle.tce_einsum.proofs.laws.every_text_has_its_value.Goals as goal

pub returns : goal.returns
returns c = every_text_has_its_value
