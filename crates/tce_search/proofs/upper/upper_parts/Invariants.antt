use Rattle.std.proofs.Common.{◌≡◌, ◌+◌, length, drop}
use Rattle.std.specs.List.{All, Contains}
use Rattle.tce_fusion.specs.Relation.{above}
use Rattle.tce_search.specs.Parts.{IsUpperPart}
use Rattle.tce_search.proofs.Parts.{IsReachedPart, AreSeen}
use Rattle.tce_search.proofs.upper.upper_parts.Given as goal

abbrev pub invariant-loop-class : goal.invariant-loop-class
invariant-loop-class l = record {
  reached : IsReachedPart l.outer l.class-items (drop l.class-index l.class-items) l.reached;
  each : All (IsUpperPart l.outer (above l.class-items)) l.parts.items;
  seen : AreSeen l.outer l.class-items (drop l.class-index l.class-items) l.reached l.parts.items;
  last : Contains l.parts.items l.reached;
  empty : Contains l.parts.items 0;
  count : length l.parts.items ≡ l.class-index + 1;
}
