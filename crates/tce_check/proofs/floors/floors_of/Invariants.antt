use Rattle.std.proofs.Common.{◌≡◌, length}
use Rattle.tce_check.specs.Reach.{AreFloors}
use Rattle.tce_check.proofs.floors.floors_of.Given as goal

abbrev pub invariant-loop-row : goal.invariant-loop-row
invariant-loop-row l = record {
  floors : AreFloors l.outer l.rows l.floors;
  count : length l.floors ≡ 1024;
}
