use Rattle.std.proofs.Common.{◌<◌, ℕ, get_or}
use Rattle.tce_sym.proofs.tile_rows.elements_left.Given as goal

abbrev pub invariant-loop-d : goal.invariant-loop-d
invariant-loop-d l = (j : ℕ) → j < l.d → get_or l.coords j 0 < get_or l.extents j 0
