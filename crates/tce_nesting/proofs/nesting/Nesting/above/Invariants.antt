use Rattle.std.proofs.Common.{◌≡◌, drop}
use Rattle.tce_fusion.specs.Relation.{above}
use Rattle.tce_nesting.proofs.nesting.Nesting.above.Given as goal

abbrev pub invariant-loop-class : goal.invariant-loop-class
invariant-loop-class l = above l.class-items l.i l.j ≡ above (drop l.class-index l.class-items) l.i l.j
