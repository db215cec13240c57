use Rattle.std.proofs.Common.{◌≡◌, ◌∷◌, ◌-◌, codes, map, take, drop}
use Rattle.tce_space.specs.Space.{Index, index_at, range_at}
use Rattle.tce_grammar.specs.Tokens.{word}
use Rattle.tce_grammar.specs.Printed.{with_tokens}
use Rattle.tce_spec.proofs.index_lines.print_group.Given as goal

abbrev pub invariant-loop-index : goal.invariant-loop-index
invariant-loop-index l =
    l.printer
    ≡ with_tokens l.fn.printer
    (word (codes "index") ∷ word (range_at l.space (index_at l.space l.first).of_range).name
    ∷ map word (map (λ (i : Index). i.name) (take (l.index - l.first) (drop l.first l.space.indexes))))
