use Rattle.std.proofs.Common.{◌-◌, length}
use Rattle.tce_nesting.specs.Stretches.{IsStretch}
use Rattle.tce_nesting.proofs.stretches.stretch_from.Given as goal

abbrev pub invariant-loop-stretch : goal.invariant-loop-stretch
invariant-loop-stretch l = IsStretch l.choices l.place l.stretch

abbrev pub decreases-loop-stretch : goal.decreases-loop-stretch
decreases-loop-stretch l = length l.choices - l.stretch.until
