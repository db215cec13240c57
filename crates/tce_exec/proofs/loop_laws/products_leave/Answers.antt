use Rattle.tce_exec.proofs.LoopLeaving as leaving
use Rattle.tce_exec.proofs.loop_laws.products_leave.Goals as goal

pub returns : goal.returns
returns c = leaving.products_leave
