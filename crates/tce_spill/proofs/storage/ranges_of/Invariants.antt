use Rattle.std.proofs.Common.{◌≡◌, ◌<◌, All, map, filter, length}
use Rattle.std.specs.List.{range_with_len}
use Rattle.tce_space.specs.IndexSet.{has}
use Rattle.tce_space.specs.Space.{index_at}
use Rattle.tce_spill.proofs.storage.ranges_of.Given as goal

abbrev pub invariant-loop-index : goal.invariant-loop-index
invariant-loop-index l = record {
  items : l.ranges.items ≡ map (λ i. (index_at l.space i).of_range) (filter (has l.dims) (range_with_len 0 l.index));
  declared : All (λ r. r < length l.space.ranges) l.ranges.items;
}
