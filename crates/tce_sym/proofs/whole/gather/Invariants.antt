use Rattle.std.proofs.Common.{◌≡◌, ℕ, ◌<◌, slice_index}
use Rattle.tce_sym.specs.Lines.{walk_place}
use Rattle.tce_sym.proofs.whole.gather.Given as goal

abbrev pub invariant-loop-k : goal.invariant-loop-k
invariant-loop-k l = record {
  done : (j : ℕ) → j < l.k → slice_index l.words j ≡ slice_index l.lines (walk_place l.walk j);
}
