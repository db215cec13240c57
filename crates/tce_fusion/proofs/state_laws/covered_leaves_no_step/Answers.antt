use Rattle.tce_fusion.proofs.StateChoices.{covered_leaves_no_step as law}
use Rattle.tce_fusion.proofs.state_laws.covered_leaves_no_step.Goals as goal

pub returns : goal.returns
returns c = law
