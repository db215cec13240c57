use Rattle.tests_code.proofs.WorkedStates as worked
use Rattle.tests_code.proofs.states.worked_relations.Goals as goal

pub returns : goal.returns
returns c = worked.worked_relations
