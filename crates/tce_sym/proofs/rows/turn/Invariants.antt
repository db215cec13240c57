use Rattle.std.proofs.Common.{◌≡◌, ℕ, ◌<◌, ◌≤◌, slice_index}
use Rattle.tce_sym.specs.Storage.{turned}
use Rattle.tce_sym.proofs.rows.turn.Given as goal

abbrev pub invariant-loop-k : goal.invariant-loop-k
invariant-loop-k l = record {
  done : (j : ℕ) → j < l.k → slice_index l.words j ≡ turned l.negated (slice_index l.fn.words j);
  left : (j : ℕ) → l.k ≤ j → slice_index l.words j ≡ slice_index l.fn.words j;
}
