use Rattle.std.proofs.Common.{◌≡◌, ℕ, ◌<◌, ◌≤◌, length, slice_index}
use Rattle.std.specs.Int.{div_ceil}
use Rattle.tce_space.specs.Space.{extent_at, edge_at}
use Rattle.tce_exec.proofs.position.Position.zero.Given as goal

abbrev pub invariant-loop-index : goal.invariant-loop-index
invariant-loop-index l = record {
  each_edge : length l.edges ≡ 24;
  each_count : length l.counts ≡ 24;
  edges : (i : ℕ) → i < l.index → slice_index l.edges i ≡ edge_at l.space i;
  counts : (i : ℕ) → i < l.index → slice_index l.counts i ≡ div_ceil (extent_at l.space i) (edge_at l.space i);
  other_edges : (i : ℕ) → l.index ≤ i → i < 24 → slice_index l.edges i ≡ 1;
  other_counts : (i : ℕ) → l.index ≤ i → i < 24 → slice_index l.counts i ≡ 1;
}
