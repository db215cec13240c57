use Rattle.tce_fusion.proofs.Costs.{costs_add_up as law}
use Rattle.tce_fusion.proofs.state_laws.costs_add_up.Goals as goal

pub returns : goal.returns
returns c = law
