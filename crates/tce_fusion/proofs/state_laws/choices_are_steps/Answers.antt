use Rattle.tce_fusion.proofs.StateChoices.{choices_are_steps as law}
use Rattle.tce_fusion.proofs.state_laws.choices_are_steps.Goals as goal

pub returns : goal.returns
returns c = law
