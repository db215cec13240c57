use Rattle.std.proofs.Common.{◌≡◌, ◌<◌, ℕ, slice_index, length}
use Rattle.tce_cache.proofs.ring.Rings.new.Given as goal

abbrev pub invariant-loop-node : goal.invariant-loop-node
invariant-loop-node l = record {
  after_len : length l.after.items ≡ l.node;
  before_len : length l.before.items ≡ l.node;
  after_self : (i : ℕ) → i < l.node → slice_index l.after.items i ≡ i;
  before_self : (i : ℕ) → i < l.node → slice_index l.before.items i ≡ i;
}
