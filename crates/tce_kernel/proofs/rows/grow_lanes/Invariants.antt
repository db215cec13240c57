use Rattle.std.proofs.Common.{◌≡◌}
use Rattle.std.specs.Simd.Lanes.{chunk}
use Rattle.tce_kernel.specs.Scaled.{with_rows}
use Rattle.tce_kernel.proofs.rows.grow_lanes.Given as goal

abbrev pub invariant-loop-k : goal.invariant-loop-k
invariant-loop-k l = l.lanes ≡ chunk 0 8 (with_rows l.fn.out l.factors l.factor_step l.rows l.row_step l.k)
