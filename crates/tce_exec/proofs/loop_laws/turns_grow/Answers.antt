use Rattle.tce_exec.proofs.Making as making
use Rattle.tce_exec.proofs.loop_laws.turns_grow.Goals as goal

pub returns : goal.returns
returns c = making.turns_grow
