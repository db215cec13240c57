use Rattle.std.proofs.Common.{◌<◌, ◌≤◌, ◌-◌}
use Rattle.tce_sym.proofs.slots.power_within.Given as goal

abbrev pub invariant-loop-power : goal.invariant-loop-power
invariant-loop-power l = record {
  some : 0 < l.power;
  within : l.power ≤ l.limit;
}

abbrev pub decreases-loop-power : goal.decreases-loop-power
decreases-loop-power l = l.limit - l.power
