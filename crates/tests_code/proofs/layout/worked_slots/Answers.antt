use Rattle.tests_code.proofs.WorkedLayout as worked
use Rattle.tests_code.proofs.layout.worked_slots.Goals as goal

pub returns : goal.returns
returns c = worked.worked_slots
