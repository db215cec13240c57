use Rattle.tce_exec.proofs.Making as making
use Rattle.tce_exec.proofs.loop_laws.others_stay.Goals as goal

pub returns : goal.returns
returns c = making.others_stay
