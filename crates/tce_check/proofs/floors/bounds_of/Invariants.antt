use Rattle.std.proofs.Common.{◌≡◌, length}
use Rattle.std.specs.List.{All}
use Rattle.tce_check.specs.declared.parts.PartCost.{PartCost}
use Rattle.tce_check.proofs.floors.bounds_of.Given as goal

abbrev pub invariant-loop-place : goal.invariant-loop-place
invariant-loop-place l = record {
  costs : All (λ (floor : PartCost). floor.cost ≡ l.cost) l.floors;
  count : length l.floors ≡ 1024;
}
