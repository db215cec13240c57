use Rattle.std.proofs.Common.{◌-◌, length}
use Rattle.tce_walk.proofs.band_search.+check_part.Given as goal

abbrev pub decreases-check_part : goal.decreases-check_part
decreases-check_part l = length l.walk.now.ops.now - l.at
