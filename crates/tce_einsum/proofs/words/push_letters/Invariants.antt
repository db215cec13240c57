use Rattle.std.proofs.Common.{◌≡◌, length}
use Rattle.tce_grammar.specs.Grammar.{listed}
use Rattle.tce_grammar.specs.Printed.{with_tokens}
use Rattle.tce_einsum.specs.Produced.{letter_names}
use Rattle.tce_einsum.proofs.words.push_letters.Given as goal

abbrev pub invariant-loop-rest : goal.invariant-loop-rest
invariant-loop-rest l = with_tokens l.printer (listed (letter_names l.rest)) ≡ with_tokens l.fn.printer (listed (letter_names l.letters))

abbrev pub decreases-loop-rest : goal.decreases-loop-rest
decreases-loop-rest l = length l.rest
