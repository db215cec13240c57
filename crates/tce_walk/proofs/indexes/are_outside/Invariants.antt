use Rattle.std.proofs.Common.{◌≡◌, ◌<◌, ℕ, true, not, get_or}
use Rattle.tce_space.specs.IndexSet.{has}
use Rattle.tce_walk.proofs.indexes.are_outside.Given as goal

abbrev pub invariant-loop-d : goal.invariant-loop-d
invariant-loop-d l = (k : ℕ) → k < l.d → not (has l.set (get_or l.loops k 0)) ≡ true
