use Rattle.std.proofs.Common.{ℕ, ◌<◌, get_or}
use Rattle.tests_files.proofs.array.is_inside.Given as goal

abbrev pub invariant-loop-d : goal.invariant-loop-d
invariant-loop-d l = (k : ℕ) → k < l.d → get_or l.coords k 0 < get_or l.extents k 0
