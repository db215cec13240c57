use Rattle.tce_fusion.proofs.LegalStates.{legal_where_states_exist as law}
use Rattle.tce_fusion.proofs.state_laws.legal_where_states_exist.Goals as goal

pub returns : goal.returns
returns c = law
