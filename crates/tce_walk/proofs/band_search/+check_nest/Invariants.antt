use Rattle.std.proofs.Common.{◌-◌, length}
use Rattle.tce_walk.proofs.band_search.+check_nest.Given as goal

abbrev pub decreases-check_nest : goal.decreases-check_nest
decreases-check_nest l = length l.walk.now.ops.now - l.at
