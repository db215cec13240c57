use Rattle.tce_check.specs.Joint.{IsBound}
use Rattle.tce_check.proofs.bound.bound_of.Given as goal

abbrev pub invariant-loop-row : goal.invariant-loop-row
invariant-loop-row l = IsBound l.outer l.rows l.bound
