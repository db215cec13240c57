use Rattle.tce_walk.proofs.KnownTails as tails
use Rattle.tce_walk.proofs.laws.single_tails_are_known.Goals as goal

pub returns : goal.returns
returns c = tails.single_tails_are_known
