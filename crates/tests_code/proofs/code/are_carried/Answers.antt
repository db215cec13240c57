use Rattle.std.proofs.Common.{ap, is_some}
use Rattle.tests_code.proofs.code.are_carried.Goals as goal

pub returns-in-None : goal.returns-in-None
returns-in-None c = λ _. c.first_not_carried.ensures.carried.0 (ap is_some c.in-None.is)
