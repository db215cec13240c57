use Rattle.std.proofs.Common.{length}
use Rattle.tce_walk.proofs.counts.+blocks_of.Given as goal

abbrev pub decreases-blocks_of : goal.decreases-blocks_of
decreases-blocks_of l = length l.loops.now
