use Rattle.std.proofs.Common.{◌<◌, ℕ, length, get_or}
use Rattle.tce_walk.proofs.indexes.are_declared.Given as goal

abbrev pub invariant-loop-d : goal.invariant-loop-d
invariant-loop-d l = (k : ℕ) → k < l.d → get_or l.loops k 0 < length l.space.indexes
