use Rattle.tce_fusion.proofs.Reached.{root_is_reached as law}
use Rattle.tce_fusion.proofs.state_laws.root_is_reached.Goals as goal

pub returns : goal.returns
returns c = law
