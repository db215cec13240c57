use Rattle.tce_walk.proofs.TailLaws as tails
use Rattle.tce_walk.proofs.tail_laws.joined_tails_add_up.Goals as goal

pub returns : goal.returns
returns c = tails.joined_tails_add_up
