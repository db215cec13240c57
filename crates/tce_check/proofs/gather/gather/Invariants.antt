use Rattle.std.proofs.Common.{◌≤◌, length}
use Rattle.tce_check.specs.Branch.{AreGathered}
use Rattle.tce_check.proofs.gather.gather.Given as goal

abbrev pub invariant-loop-at : goal.invariant-loop-at
invariant-loop-at l = record {
  room : l.count ≤ length l.places;
  gathered : AreGathered l.branch l.limit l.rows l.from l.at l.places l.count;
}
