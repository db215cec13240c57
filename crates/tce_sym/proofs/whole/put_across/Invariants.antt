use Rattle.std.proofs.Common.{◌≡◌, ◌≢◌, ◌⊎◌, ℕ, ◌+◌, ◌*◌, ◌<◌, slice_index}
use Rattle.tce_sym.proofs.whole.put_across.Given as goal

abbrev pub invariant-loop-k : goal.invariant-loop-k
invariant-loop-k l = record {
  put : (j : ℕ) → j < l.k → slice_index l.lines ((l.from + j) * l.grid.pitch + l.outer) ≡ slice_index l.words j;
  kept : (other pair : ℕ) → other < l.grid.pitch → (other ≢ l.outer) ⊎ (pair < l.from) → slice_index l.lines (pair * l.grid.pitch + other) ≡ slice_index l.fn.lines (pair * l.grid.pitch + other);
}
