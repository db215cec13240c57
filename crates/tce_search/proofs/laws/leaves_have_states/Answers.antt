use Rattle.tce_search.proofs.ReachedStates as law
use Rattle.tce_search.proofs.laws.leaves_have_states.Goals as goal

pub returns : goal.returns
returns c = law.leaves_have_states
