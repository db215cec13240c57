use Rattle.std.proofs.Common.{◌≡◌, ◌*◌, length, take}
use Rattle.tce_base.specs.Word.{wrapping_sum}
use Rattle.tce_kernel.proofs.sum.Given as goal

abbrev pub invariant-loop-block : goal.invariant-loop-block
invariant-loop-block l = record { whole_row : length l.lanes ≡ 8; summed : wrapping_sum l.lanes ≡ wrapping_sum (take (8 * l.block) l.a) }

abbrev pub invariant-loop-at : goal.invariant-loop-at
invariant-loop-at l = l.total ≡ wrapping_sum (take l.at l.a)
