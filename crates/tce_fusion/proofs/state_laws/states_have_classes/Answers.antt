use Rattle.tce_fusion.proofs.StateClasses.{states_have_classes as law}
use Rattle.tce_fusion.proofs.state_laws.states_have_classes.Goals as goal

pub returns : goal.returns
returns c = law
