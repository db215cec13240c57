use Rattle.std.proofs.Common.{◌≡◌, length, map, fold}
use Rattle.tce_einsum.specs.Code as code
use Rattle.tce_einsum.specs.Produced as produced
use Rattle.tce_einsum.specs.ProducedCode.{tileds}
use Rattle.tce_einsum.proofs.ranges.ranges_of.Given as goal

abbrev pub invariant-loop-rest : goal.invariant-loop-rest
invariant-loop-rest l = fold produced.with_new (tileds l.seen.items) (map produced.tiled (code.sizes l.rest)) ≡ produced.ranges (code.sizes l.sizes)

abbrev pub decreases-loop-rest : goal.decreases-loop-rest
decreases-loop-rest l = length l.rest
