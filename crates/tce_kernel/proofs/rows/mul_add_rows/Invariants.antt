use Rattle.std.proofs.Common.{◌≡◌, ◌*◌}
use Rattle.tce_kernel.specs.Scaled.{with_rows}
use Rattle.tce_kernel.proofs.Blocks.{done_to}
use Rattle.tce_kernel.proofs.rows.mul_add_rows.Given as goal

abbrev pub invariant-loop-block : goal.invariant-loop-block
invariant-loop-block l = l.out ≡ done_to (32 * l.block) (with_rows l.fn.out l.factors l.factor_step l.rows l.row_step l.count) l.fn.out

abbrev pub invariant-loop-block-2 : goal.invariant-loop-block-2
invariant-loop-block-2 l = l.out ≡ done_to (8 * l.block) (with_rows l.fn.out l.factors l.factor_step l.rows l.row_step l.count) l.fn.out

abbrev pub invariant-loop-at : goal.invariant-loop-at
invariant-loop-at l = l.out ≡ done_to l.at (with_rows l.fn.out l.factors l.factor_step l.rows l.row_step l.count) l.fn.out
