use Rattle.std.proofs.Common.{◌≡◌, ℕ, ◌^◌, ◌<◌, length, slice_index}
use Rattle.std.specs.List.{All}
use Rattle.tce_tree.specs.Memory.{size_at}
use Rattle.tce_search.proofs.plan.sizes_of.Given as goal

abbrev pub invariant-loop-v : goal.invariant-loop-v
invariant-loop-v l = record {
  count : length l.sizes.items ≡ l.v;
  sizes : (u : ℕ) → u < l.v → slice_index l.sizes.items u ≡ size_at l.space l.tree l.fusion.0.items u;
  limit : All (λ n. n < 2 ^ 96) l.sizes.items;
}
