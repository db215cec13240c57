use Rattle.std.proofs.Common.{ℕ, ◌<◌, ◌≤◌, slice_index}
use Rattle.tce_fusion.specs.Tops.{row, size_in}
use Rattle.tce_fusion.proofs.orders.place_behind.Given as goal

abbrev pub invariant-loop-k : goal.invariant-loop-k
invariant-loop-k l = (x : ℕ) → x < l.k → l.size ≤ size_in l.count (row l.scopes.0 (slice_index l.order x)) l.v
