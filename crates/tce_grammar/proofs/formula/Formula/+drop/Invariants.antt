use Rattle.std.proofs.Common.{◌≤◌}
use Rattle.tce_grammar.specs.declared.formula.Formula.TheViews.{size-Formula}
use Rattle.tce_grammar.proofs.formula.Formula.+drop.Given as goal

abbrev pub invariant-loop-self : goal.invariant-loop-self
invariant-loop-self l = size-Formula l.self ≤ size-Formula l.fn.self
