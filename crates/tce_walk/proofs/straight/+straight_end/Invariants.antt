use Rattle.std.proofs.Common.{◌-◌, length}
use Rattle.tce_walk.proofs.straight.+straight_end.Given as goal

abbrev pub decreases-straight_end : goal.decreases-straight_end
decreases-straight_end l = length l.ops.now - l.at
