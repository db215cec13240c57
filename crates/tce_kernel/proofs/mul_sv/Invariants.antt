use Rattle.std.proofs.Common.{◌≡◌, ◌*◌, map}
use Rattle.tce_base.specs.Word.{wrapping_mul}
use Rattle.tce_kernel.proofs.Blocks.{done_to}
use Rattle.tce_kernel.proofs.mul_sv.Given as goal

abbrev pub invariant-loop-block : goal.invariant-loop-block
invariant-loop-block l = l.out ≡ done_to (8 * l.block) (map (wrapping_mul l.s) l.b) l.fn.out

abbrev pub invariant-loop-at : goal.invariant-loop-at
invariant-loop-at l = l.out ≡ done_to l.at (map (wrapping_mul l.s) l.b) l.fn.out
