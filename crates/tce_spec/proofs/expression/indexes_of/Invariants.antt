use Rattle.std.proofs.Common.{◌≡◌, ◌≤◌, ◌+◌, ◌++◌, length}
use Rattle.tce_grammar.specs.Code.{names}
use Rattle.tce_grammar.specs.Grammar.{AreNames}
use Rattle.tce_spec.specs.Meaning.{indexes_of}
use Rattle.tce_spec.proofs.expression.indexes_of.Given as goal

abbrev pub invariant-loop-rest : goal.invariant-loop-rest
invariant-loop-rest g l = record {
  named : AreNames (names l.rest);
  numbered : l.numbers.items ++ indexes_of l.space (names l.rest) ≡ indexes_of l.space (names l.indexes);
  room : length l.numbers.items + length l.rest ≤ g.row.N;
}

abbrev pub decreases-loop-rest : goal.decreases-loop-rest
decreases-loop-rest g l = length l.rest
