use Rattle.tce_fusion.proofs.StateChoices.{parts_are_index_sets as law}
use Rattle.tce_fusion.proofs.state_laws.parts_are_index_sets.Goals as goal

pub returns : goal.returns
returns c = law
