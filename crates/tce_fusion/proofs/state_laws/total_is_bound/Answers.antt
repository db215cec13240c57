use Rattle.tce_fusion.proofs.Covers.{total_is_bound as law}
use Rattle.tce_fusion.proofs.state_laws.total_is_bound.Goals as goal

pub returns : goal.returns
returns c = law
