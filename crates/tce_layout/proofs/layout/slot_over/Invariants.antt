use Rattle.std.proofs.Common.{◌≡◌}
use Rattle.tce_space.specs.Space.{extent_at}
use Rattle.tce_layout.proofs.Steps.{StepsFrom, size_from}
use Rattle.tce_layout.proofs.layout.slot_over.Given as goal

abbrev pub invariant-loop-i : goal.invariant-loop-i
invariant-loop-i l = record {
  size : l.size ≡ size_from (extent_at l.space) l.dims l.i;
  steps : StepsFrom l.space l.dims l.i l.steps;
}
