use Rattle.std.proofs.Common.{◌≡◌, ◌+◌, ◌≤◌}
use Rattle.tce_grammar.specs.Code.{formula}
use Rattle.tce_grammar.specs.Formula.{operations}
use Rattle.tce_grammar.proofs.formula.+operations_left.Given as goal

abbrev pub decreases-operations_left : goal.decreases-operations_left
decreases-operations_left l = operations (formula l.whole.now)

abbrev pub invariant-loop-rest : goal.invariant-loop-rest
invariant-loop-rest l = record {
  same : l.left + operations (formula l.whole) ≡ l.limit + operations (formula l.rest);
  fewer : l.left ≤ l.limit;
}
