use Rattle.std.proofs.Common.{◌≡◌, ◌*◌, length, take}
use Rattle.std.specs.Simd.Lanes.{zip2}
use Rattle.tce_base.specs.Word.{wrapping_mul, wrapping_sum}
use Rattle.tce_kernel.proofs.dot.Given as goal

abbrev pub invariant-loop-block : goal.invariant-loop-block
invariant-loop-block l = record { whole_row : length l.lanes ≡ 8; summed : wrapping_sum l.lanes ≡ wrapping_sum (take (8 * l.block) (zip2 wrapping_mul l.a l.b)) }

abbrev pub invariant-loop-at : goal.invariant-loop-at
invariant-loop-at l = l.total ≡ wrapping_sum (take l.at (zip2 wrapping_mul l.a l.b))
