use Rattle.std.proofs.Common.{◌≡◌, ◌∷◌, []}
use Rattle.tce_kernel.specs.Scaled.{with_rows}
use Rattle.tce_kernel.proofs.rows.grown.Given as goal

abbrev pub invariant-loop-k : goal.invariant-loop-k
invariant-loop-k l = l.total ∷ [] ≡ with_rows (l.fn.word ∷ []) l.factors l.factor_step l.rows l.row_step l.k
