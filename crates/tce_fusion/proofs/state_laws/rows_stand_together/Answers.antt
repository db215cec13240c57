use Rattle.tce_fusion.proofs.Steps.{rows_stand_together as law}
use Rattle.tce_fusion.proofs.state_laws.rows_stand_together.Goals as goal

pub returns : goal.returns
returns c = law
