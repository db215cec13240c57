use Rattle.std.proofs.Common.{drop}
use Rattle.tce_nesting.proofs.Outermost.{AgreeIn}
use Rattle.tce_check.proofs.uppermost.is_uppermost.Given as goal

abbrev pub invariant-loop-class : goal.invariant-loop-class
invariant-loop-class l = AgreeIn l.rest l.class-items (drop l.class-index l.class-items)
