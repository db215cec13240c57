use Rattle.tce_walk.proofs.TailLaws as tails
use Rattle.tce_walk.proofs.tail_laws.single_tails_end_at_last.Goals as goal

pub returns : goal.returns
returns c = tails.single_tails_end_at_last
