use Rattle.std.proofs.Common.{◌≡◌, ◌+◌, length}
use Rattle.std.specs.List.{position_or_len}
use Rattle.tce_einsum.specs.Produced as produced
use Rattle.tce_einsum.specs.ProducedCode.{tiled, tileds}
use Rattle.tce_einsum.proofs.ranges.number_in.Given as goal

abbrev pub invariant-loop-rest : goal.invariant-loop-rest
invariant-loop-rest l = record {
  place : l.number + position_or_len (produced.is_same (tiled l.one)) (tileds l.rest) ≡ position_or_len (produced.is_same (tiled l.one)) (tileds l.ranges);
  count : l.number + length l.rest ≡ length l.ranges;
}

abbrev pub decreases-loop-rest : goal.decreases-loop-rest
decreases-loop-rest l = length l.rest
