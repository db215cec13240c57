use Rattle.std.proofs.Common.{◌≡◌, ◌∷◌, ◌-◌, codes, map, take, drop}
use Rattle.tce_space.specs.Space.{Index}
use Rattle.tce_grammar.specs.Tokens.{word}
use Rattle.tce_grammar.specs.Printed.{with_tokens}
use Rattle.tce_einsum.specs.Code as code
use Rattle.tce_einsum.specs.Produced as produced
use Rattle.tce_einsum.proofs.lines.print_group.Given as goal

abbrev pub invariant-loop-place : goal.invariant-loop-place
invariant-loop-place l =
    l.printer
    ≡ with_tokens l.fn.printer
    (word (codes "index") ∷ word (produced.range_name l.range)
    ∷ map word (map (λ (i : Index). i.name) (take (l.place - l.first) (drop l.first (produced.indexes (code.sizes l.sizes))))))
