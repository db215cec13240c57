use Rattle.std.proofs.Common.{◌≤◌, ◌-◌}
use Rattle.tce_sym.proofs.slots.shift_of.Given as goal

abbrev pub invariant-loop-shift : goal.invariant-loop-shift
invariant-loop-shift l = record {
  shift : l.shift ≤ 8;
  size : l.size ≤ 512;
}

abbrev pub decreases-loop-shift : goal.decreases-loop-shift
decreases-loop-shift l = 8 - l.shift
