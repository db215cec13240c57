use Rattle.tce_fusion.proofs.Reached.{operands_are_joined as law}
use Rattle.tce_fusion.proofs.state_laws.operands_are_joined.Goals as goal

pub returns : goal.returns
returns c = law
