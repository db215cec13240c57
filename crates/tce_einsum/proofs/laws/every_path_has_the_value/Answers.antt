use Rattle.tce_einsum.proofs.Contractions.{every_path_has_the_value}
use Rattle.tce_einsum.proofs.laws.every_path_has_the_value.Goals as goal

pub returns : goal.returns
returns c = every_path_has_the_value
