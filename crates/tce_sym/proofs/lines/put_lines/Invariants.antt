use Rattle.std.proofs.Common.{◌≡◌, ℕ, ◌+◌, ◌-◌, ◌<◌, ◌≤◌, List, length, slice_index}
use Rattle.tce_sym.specs.Storage.{stored_word}
use Rattle.tce_sym.specs.Lines.{AreLines}
use Rattle.tce_sym.proofs.lines.put_lines.Given as goal

abbrev pub invariant-loop-step : goal.invariant-loop-step
invariant-loop-step l = record {
  kept : (bytes : List ℕ) → AreLines l.grid bytes l.fn.lines → ((k : ℕ) → k < length l.words → slice_index l.words k ≡ stored_word bytes (l.start + k)) → AreLines l.grid bytes l.lines;
  slot : l.slot ≤ l.grid.last;
  from : l.from ≤ length l.words;
  step : l.step ≤ 2048 + l.from;
}

abbrev pub decreases-loop-step : goal.decreases-loop-step
decreases-loop-step l = length l.words - l.from
