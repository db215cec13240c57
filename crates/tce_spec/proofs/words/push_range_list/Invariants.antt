use Rattle.std.proofs.Common.{◌≡◌, ◌∷◌, get_or, take}
use Rattle.tce_grammar.specs.Grammar.{listed}
use Rattle.tce_grammar.specs.Printed.{with_tokens}
use Rattle.tce_spec.specs.Statements.{range_names}
use Rattle.tce_spec.proofs.words.push_range_list.Given as goal

abbrev pub invariant-loop-range : goal.invariant-loop-range
invariant-loop-range l = l.printer ≡ with_tokens l.fn.printer (listed (range_names l.space (get_or l.ranges 0 0 ∷ take l.range-index l.rest)))
