use Rattle.std.proofs.Common.{◌≡◌, ◌++◌, ◌<◌, length, All}
use Rattle.tce_einsum.specs.Code as code
use Rattle.tce_einsum.specs.Numbered as model
use Rattle.tce_einsum.proofs.numbering.numbers_of.Given as goal

abbrev pub invariant-loop-rest : goal.invariant-loop-rest
invariant-loop-rest l = record {
  numbers : l.found.items ++ model.numbers_of (code.sizes l.sizes) l.rest ≡ model.numbers_of (code.sizes l.sizes) l.labels;
  below : All (λ i. i < 32) l.found.items;
}

abbrev pub decreases-loop-rest : goal.decreases-loop-rest
decreases-loop-rest l = length l.rest
