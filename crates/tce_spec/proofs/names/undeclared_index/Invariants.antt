use Rattle.std.proofs.Common.{◌≡◌, length}
use Rattle.tce_grammar.specs.Code.{names}
use Rattle.tce_grammar.specs.Grammar.{AreNames}
use Rattle.tce_spec.specs.PlaceFaults.{undeclared_index}
use Rattle.tce_spec.proofs.names.undeclared_index.Given as goal

abbrev pub invariant-loop-rest : goal.invariant-loop-rest
invariant-loop-rest l = AreNames (names l.rest) × (undeclared_index l.space (names l.indexes) ≡ undeclared_index l.space (names l.rest))

abbrev pub decreases-loop-rest : goal.decreases-loop-rest
decreases-loop-rest l = length l.rest
