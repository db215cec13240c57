use Rattle.std.proofs.Common.{◌≡◌, ◌≤◌, ◌*◌, ◌^◌, filter}
use Rattle.std.specs.List.{range_with_len, fold}
use Rattle.tce_space.specs.IndexSet.{has}
use Rattle.tce_space.specs.Space.{extent_at}
use Rattle.tce_space.proofs.space.Space.volume.Given as goal

abbrev pub invariant-loop-index : goal.invariant-loop-index
invariant-loop-index l = record {
  value : l.product ≡ fold (λ product i. product * extent_at l.self i) 1 (filter (has l.set) (range_with_len 0 l.index));
  limit : l.product ≤ 2 ^ 90;
}
