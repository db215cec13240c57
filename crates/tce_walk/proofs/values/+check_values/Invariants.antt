use Rattle.std.proofs.Common.{◌-◌, length}
use Rattle.tce_walk.proofs.values.+check_values.Given as goal

abbrev pub decreases-check_values : goal.decreases-check_values
decreases-check_values l = length l.walk.now.ops.now - l.at
