use Rattle.tests_code.proofs.WorkedCode as worked
use Rattle.tests_code.proofs.code.worked_code.Goals as goal

pub returns-clause-code : goal.returns-clause-code
returns-clause-code c = worked.worked_code

pub returns-clause-runs : goal.returns-clause-runs
returns-clause-runs c = worked.worked_runs
