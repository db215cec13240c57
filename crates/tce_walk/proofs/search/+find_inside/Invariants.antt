use Rattle.std.proofs.Common.{◌-◌, length}
use Rattle.tce_walk.proofs.search.+find_inside.Given as goal

abbrev pub decreases-find_inside : goal.decreases-find_inside
decreases-find_inside l = length l.ops.now - l.at
