use Rattle.std.proofs.Common.{◌≤◌, ◌-◌, length}
use Rattle.tce_walk.proofs.summands.insert.Given as goal

abbrev pub invariant-loop-at : goal.invariant-loop-at
invariant-loop-at l = l.at ≤ length l.summands.items

abbrev pub decreases-loop-at : goal.decreases-loop-at
decreases-loop-at l = length l.summands.items - l.at
