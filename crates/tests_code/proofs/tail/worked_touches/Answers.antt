use Rattle.tests_code.proofs.WorkedTail as worked
use Rattle.tests_code.proofs.tail.worked_touches.Goals as goal

pub returns : goal.returns
returns c = worked.worked_touches
