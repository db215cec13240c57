use Rattle.std.proofs.Common.{◌≡◌, ◌<◌, ◌^◌, All, take, map}
use Rattle.tce_space.specs.Space.{range_at}
use Rattle.tce_space.specs.Tiling.{ArePositive}
use Rattle.tce_space.proofs.space.Space.shape.Given as goal

abbrev pub invariant-loop-range : goal.invariant-loop-range
invariant-loop-range l = record {
  extents : l.extents.items ≡ map (λ r. (range_at l.self r).extent) (take l.range-index l.range-items);
  edges : l.edges.items ≡ map (λ r. (range_at l.self r).edge) (take l.range-index l.range-items);
  sizes : All (λ n. (0 < n) × (n < 2 ^ 32)) l.extents.items;
  positive : ArePositive l.edges.items;
}
