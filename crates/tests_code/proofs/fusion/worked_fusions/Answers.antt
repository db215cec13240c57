use Rattle.tests_code.proofs.WorkedFusion as worked
use Rattle.tests_code.proofs.fusion.worked_fusions.Goals as goal

pub returns : goal.returns
returns c = worked.worked_fusions
