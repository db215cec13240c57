use Rattle.std.proofs.Common.{drop}
use Rattle.tce_search.proofs.Bounding.{IsPrefix}
use Rattle.tce_search.proofs.limits.bound_of.Given as goal

abbrev pub invariant-loop-class : goal.invariant-loop-class
invariant-loop-class l = IsPrefix l.class-items (drop l.class-index l.class-items) l.reached
