use Rattle.tce_fusion.proofs.Covers.{least_by_cover as law}
use Rattle.tce_fusion.proofs.state_laws.least_by_cover.Goals as goal

pub returns : goal.returns
returns c = law
