use Rattle.tests_code.proofs.WorkedBands as worked
use Rattle.tests_code.proofs.blockwise.worked_bands.Goals as goal

pub returns : goal.returns
returns c = worked.worked_bands
