use Rattle.std.proofs.Common.{◌≡◌, length, map}
use Rattle.tce_grammar.specs.Grammar.{listed}
use Rattle.tce_grammar.specs.Printed.{with_tokens}
use Rattle.tce_einsum.specs.Produced.{range_name}
use Rattle.tce_einsum.proofs.words.push_range_names.Given as goal

abbrev pub invariant-loop-rest : goal.invariant-loop-rest
invariant-loop-rest l = with_tokens l.printer (listed (map range_name l.rest)) ≡ with_tokens l.fn.printer (listed (map range_name l.ranges))

abbrev pub decreases-loop-rest : goal.decreases-loop-rest
decreases-loop-rest l = length l.rest
