use Rattle.std.proofs.Common.{drop}
use Rattle.tce_nesting.proofs.Tops.{IsReached}
use Rattle.tce_nesting.proofs.stretches.allows_none.Given as goal

abbrev pub invariant-loop-class : goal.invariant-loop-class
invariant-loop-class l = IsReached l.loops l.class-items (drop l.class-index l.class-items) l.reached
