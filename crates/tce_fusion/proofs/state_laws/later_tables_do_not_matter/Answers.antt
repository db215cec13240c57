use Rattle.tce_fusion.proofs.StateChoices.{later_tables_do_not_matter as law}
use Rattle.tce_fusion.proofs.state_laws.later_tables_do_not_matter.Goals as goal

pub returns : goal.returns
returns c = law
