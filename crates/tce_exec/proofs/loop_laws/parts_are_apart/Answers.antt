use Rattle.tce_exec.proofs.LoopLeaving as leaving
use Rattle.tce_exec.proofs.loop_laws.parts_are_apart.Goals as goal

pub returns : goal.returns
returns c = leaving.parts_are_apart
