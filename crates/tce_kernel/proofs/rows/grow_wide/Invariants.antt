use Rattle.std.proofs.Common.{◌≡◌}
use Rattle.std.specs.Simd.Lanes.{chunk}
use Rattle.tce_kernel.specs.Scaled.{with_rows}
use Rattle.tce_kernel.proofs.rows.grow_wide.Given as goal

abbrev pub invariant-loop-k : goal.invariant-loop-k
invariant-loop-k l =
    let whole = with_rows l.fn.out l.factors l.factor_step l.rows l.row_step l.k in
    record { first : l.a ≡ chunk 0 8 whole; second : l.b ≡ chunk 8 8 whole; third : l.c ≡ chunk 16 8 whole; fourth : l.d ≡ chunk 24 8 whole }
