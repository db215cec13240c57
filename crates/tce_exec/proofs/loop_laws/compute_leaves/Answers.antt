use Rattle.tce_exec.proofs.LoopLeaving as leaving
use Rattle.tce_exec.proofs.loop_laws.compute_leaves.Goals as goal

pub returns : goal.returns
returns c = leaving.compute_leaves
