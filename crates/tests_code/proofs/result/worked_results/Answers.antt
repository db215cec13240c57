use Rattle.tests_code.proofs.WorkedResult as worked
use Rattle.tests_code.proofs.result.worked_results.Goals as goal

pub returns : goal.returns
returns c = worked.worked_results
