use Rattle.std.proofs.Common.{◌≡◌, ℕ, ◌+◌, ◌*◌, ◌<◌, List, slice_index}
use Rattle.tce_sym.specs.Lines.{AreLines}
use Rattle.tce_sym.proofs.lines.put_line.Given as goal

abbrev pub invariant-loop-k : goal.invariant-loop-k
invariant-loop-k l = record {
  kept : (bytes : List ℕ) → AreLines l.grid bytes l.fn.lines → AreLines l.grid bytes l.lines;
  unmarked : slice_index l.lines l.slot ≡ 0;
  put : (j : ℕ) → j < l.k → slice_index l.lines ((1 + j) * l.grid.pitch + l.slot) ≡ slice_index l.words j;
}
