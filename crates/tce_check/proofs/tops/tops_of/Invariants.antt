use Rattle.std.proofs.Common.{◌≡◌, drop, length}
use Rattle.std.specs.List.{All}
use Rattle.tce_fusion.specs.Relation.{above}
use Rattle.tce_nesting.specs.Ends.{IsTopOf}
use Rattle.tce_nesting.proofs.Tops.{IsReached}
use Rattle.tce_check.proofs.tops.tops_of.Given as goal

abbrev pub invariant-loop-class : goal.invariant-loop-class
invariant-loop-class l = record {
  reached : IsReached l.loops l.class-items (drop l.class-index l.class-items) l.reached;
  tops : All (IsTopOf l.loops (above l.class-items)) l.tops.items;
  count : length l.tops.items ≡ l.class-index;
}
