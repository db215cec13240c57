use Rattle.std.proofs.Common.{length}
use Rattle.tce_walk.proofs.combination.+touches_of.Given as goal

abbrev pub decreases-touches_of : goal.decreases-touches_of
decreases-touches_of l = length l.terms.now
