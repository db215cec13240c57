use Rattle.std.proofs.Common.{◌≡◌, length}
use Rattle.std.specs.List.{list_any}
use Rattle.tce_einsum.specs.Produced as produced
use Rattle.tce_einsum.specs.ProducedCode.{tiled, tileds}
use Rattle.tce_einsum.proofs.ranges.is_any.Given as goal

abbrev pub invariant-loop-rest : goal.invariant-loop-rest
invariant-loop-rest l = list_any (produced.is_same (tiled l.one)) (tileds l.rest) ≡ list_any (produced.is_same (tiled l.one)) (tileds l.seen)

abbrev pub decreases-loop-rest : goal.decreases-loop-rest
decreases-loop-rest l = length l.rest
