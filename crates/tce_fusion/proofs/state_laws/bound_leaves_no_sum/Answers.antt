use Rattle.tce_fusion.proofs.StateChoices.{bound_leaves_no_sum as law}
use Rattle.tce_fusion.proofs.state_laws.bound_leaves_no_sum.Goals as goal

pub returns : goal.returns
returns c = law
