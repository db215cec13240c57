use Rattle.std.proofs.Common.{◌≡◌, ◌++◌, length, map}
use Rattle.std.specs.List.{position_or_len}
use Rattle.tce_einsum.specs.Text.{Size}
use Rattle.tce_einsum.specs.Code as code
use Rattle.tce_einsum.specs.Produced as produced
use Rattle.tce_einsum.proofs.ranges.range_numbers.Given as goal

abbrev pub invariant-loop-rest : goal.invariant-loop-rest
invariant-loop-rest l =
    l.found.items ++ map (λ (s : Size). position_or_len (produced.is_same (produced.tiled s)) (produced.ranges (code.sizes l.sizes))) (code.sizes l.rest)
    ≡ produced.range_numbers (code.sizes l.sizes)

abbrev pub decreases-loop-rest : goal.decreases-loop-rest
decreases-loop-rest l = length l.rest
