use Rattle.std.proofs.Common.{length, ◌-◌, ◌≡◌, ℕ, ◌<◌, ◌≤◌, List, slice_index}
use Rattle.tce_sym.specs.Storage.{stored_word}
use Rattle.tce_sym.specs.Lines.{AreLines, walk_place}
use Rattle.tce_sym.proofs.walks.held.Given as goal

abbrev pub invariant-loop-done : goal.invariant-loop-done
invariant-loop-done l = record {
  from : l.from ≤ l.done;
  within : l.done ≤ length l.words;
  held : (bytes : List ℕ) → AreLines l.grid bytes l.lines → ((k : ℕ) → k < l.from → slice_index l.fn.words k ≡ stored_word bytes (walk_place l.walk k))
      → (k : ℕ) → k < l.done → slice_index l.words k ≡ stored_word bytes (walk_place l.walk k);
}

abbrev pub decreases-loop-done : goal.decreases-loop-done
decreases-loop-done l = length l.initial.words - l.done
