use Rattle.std.proofs.Common.{◌≡◌, ◌<◌, ℕ, true, get_or}
use Rattle.tce_space.specs.IndexSet.{has}
use Rattle.tce_walk.proofs.indexes.are_in.Given as goal

abbrev pub invariant-loop-d : goal.invariant-loop-d
invariant-loop-d l = (k : ℕ) → k < l.d → has l.set (get_or l.loops k 0) ≡ true
