use Rattle.tce_fusion.proofs.Reached.{steps_are_reached as law}
use Rattle.tce_fusion.proofs.state_laws.steps_are_reached.Goals as goal

pub returns : goal.returns
returns c = law
