use Rattle.std.proofs.Common.{sym}
use Rattle.tce_walk.proofs.BandChecks.{sum_at}
use Rattle.tce_walk.proofs.band_search.is_sum_at.Goals as goal

pub returns-in-Sum : goal.returns-in-Sum
returns-in-Sum c = sym (sum_at c.args.walk.now.tree.now c.args.v c.requires (sym c.in-Sum.ensures))
