use Rattle.std.proofs.Common.{◌≡◌, ◌*◌}
use Rattle.std.specs.Simd.Lanes.{zip2}
use Rattle.tce_base.specs.Word.{wrapping_add, wrapping_mul}
use Rattle.tce_kernel.proofs.Blocks.{done_to}
use Rattle.tce_kernel.proofs.mul_add_vv.Given as goal

abbrev pub invariant-loop-block : goal.invariant-loop-block
invariant-loop-block l = l.out ≡ done_to (8 * l.block) (zip2 wrapping_add l.fn.out (zip2 wrapping_mul l.a l.b)) l.fn.out

abbrev pub invariant-loop-at : goal.invariant-loop-at
invariant-loop-at l = l.out ≡ done_to l.at (zip2 wrapping_add l.fn.out (zip2 wrapping_mul l.a l.b)) l.fn.out
