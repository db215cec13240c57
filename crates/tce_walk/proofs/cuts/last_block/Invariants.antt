use Rattle.std.proofs.Common.{◌≡◌, ◌-◌, map, take}
use Rattle.tce_space.specs.Space.{extent_at}
use Rattle.tce_walk.proofs.cuts.last_block.Given as goal

abbrev pub invariant-loop-index : goal.invariant-loop-index
invariant-loop-index l = record {
  from : l.block.from.items ≡ map (λ i. extent_at l.space i - 1) (take l.index-index l.loops);
  len : l.block.len.items ≡ map (λ i. 1) (take l.index-index l.loops);
}
