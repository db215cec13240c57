use Rattle.std.proofs.Common.{refl}
use Rattle.tce_exec.proofs.run.run_code.Goals as goal

pub run_on-answer-requires-clause-right : goal.run_on-answer-requires-clause-right
run_on-answer-requires-clause-right g c = c.new.ensures _ refl
