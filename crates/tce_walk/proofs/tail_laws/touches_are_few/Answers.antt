use Rattle.tce_walk.proofs.TouchBound as bound
use Rattle.tce_walk.proofs.tail_laws.touches_are_few.Goals as goal

pub returns : goal.returns
returns c = bound.touches_are_few
