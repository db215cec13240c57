use Rattle.tce_search.proofs.ReachedStates as law
use Rattle.tce_search.proofs.laws.steps_are_states.Goals as goal

pub returns : goal.returns
returns c = law.steps_are_states
