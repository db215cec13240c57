use Rattle.std.proofs.Common.{drop}
use Rattle.tce_fusion.specs.Relation.{above}
use Rattle.tce_nesting.specs.Ends.{IsTopOf}
use Rattle.tce_nesting.proofs.Tops.{IsReached}
use Rattle.tce_nesting.proofs.ends.largest_top.Given as goal

abbrev pub invariant-loop-class : goal.invariant-loop-class
invariant-loop-class l = record {
  reached : IsReached l.loops l.class-items (drop l.class-index l.class-items) l.reached;
  top : IsTopOf l.loops (above l.class-items) l.top;
}
