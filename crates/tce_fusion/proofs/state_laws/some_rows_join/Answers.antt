use Rattle.tce_fusion.proofs.Unfused.{some_rows_join as law}
use Rattle.tce_fusion.proofs.state_laws.some_rows_join.Goals as goal

pub returns : goal.returns
returns c = law
