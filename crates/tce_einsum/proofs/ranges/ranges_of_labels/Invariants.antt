use Rattle.std.proofs.Common.{◌≡◌, ◌++◌, length, map}
use Rattle.tce_einsum.specs.Code as code
use Rattle.tce_einsum.specs.Produced as produced
use Rattle.tce_einsum.proofs.ranges.ranges_of_labels.Given as goal

abbrev pub invariant-loop-rest : goal.invariant-loop-rest
invariant-loop-rest l = l.found.items ++ map (produced.range_of (code.sizes l.sizes)) l.rest ≡ map (produced.range_of (code.sizes l.sizes)) l.labels

abbrev pub decreases-loop-rest : goal.decreases-loop-rest
decreases-loop-rest l = length l.rest
