use Rattle.tce_fusion.proofs.Tells.{joins_tell_scopes as law}
use Rattle.tce_fusion.proofs.state_laws.joins_tell_scopes.Goals as goal

pub returns : goal.returns
returns c = law
