use Rattle.std.proofs.Common.{◌≡◌, ◌∷◌, get_or, take}
use Rattle.tce_grammar.specs.Grammar.{listed}
use Rattle.tce_grammar.specs.Printed.{with_tokens}
use Rattle.tce_spec.specs.Statements.{index_names}
use Rattle.tce_spec.proofs.words.push_index_list.Given as goal

abbrev pub invariant-loop-index : goal.invariant-loop-index
invariant-loop-index l = l.printer ≡ with_tokens l.fn.printer (listed (index_names l.space (get_or l.indexes 0 0 ∷ take l.index-index l.rest)))
