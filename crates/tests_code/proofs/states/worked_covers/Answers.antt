use Rattle.tests_code.proofs.WorkedCovers as worked
use Rattle.tests_code.proofs.states.worked_covers.Goals as goal

pub returns : goal.returns
returns c = worked.worked_covers
