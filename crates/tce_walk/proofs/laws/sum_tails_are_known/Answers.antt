use Rattle.tce_walk.proofs.KnownTails as tails
use Rattle.tce_walk.proofs.laws.sum_tails_are_known.Goals as goal

pub returns : goal.returns
returns c = tails.sum_tails_are_known
