use Rattle.tests_code.proofs.WorkedBlockwise as worked
use Rattle.tests_code.proofs.blockwise.worked_parts.Goals as goal

pub returns : goal.returns
returns c = worked.worked_parts
