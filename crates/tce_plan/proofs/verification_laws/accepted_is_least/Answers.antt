use Rattle.tce_plan.proofs.Accepted as accepted
use Rattle.tce_plan.proofs.verification_laws.accepted_is_least.Goals as goal

pub returns : goal.returns
returns c = accepted.accepted_is_least
