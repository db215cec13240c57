use Rattle.tce_fusion.proofs.StateChoices.{first_choice_is_first_step as law}
use Rattle.tce_fusion.proofs.state_laws.first_choice_is_first_step.Goals as goal

pub returns : goal.returns
returns c = law
