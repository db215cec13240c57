use Rattle.std.proofs.Common.{◌<◌, ℕ, get_or}
use Rattle.tce_walk.proofs.indexes.set_of.Given as goal

abbrev pub invariant-loop-d : goal.invariant-loop-d
invariant-loop-d l = (k : ℕ) → k < l.d → get_or l.loops k 0 < 24
