use Rattle.std.proofs.Common.{◌-◌, length}
use Rattle.tce_check.proofs.tops.place_beyond.Given as goal

abbrev pub decreases-loop-place : goal.decreases-loop-place
decreases-loop-place l = length l.tops - l.place
