use Rattle.tce_fusion.proofs.StateChoices.{first_low_pair_is_first_below as law}
use Rattle.tce_fusion.proofs.state_laws.first_low_pair_is_first_below.Goals as goal

pub returns : goal.returns
returns c = law
