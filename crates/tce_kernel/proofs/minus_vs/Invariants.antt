use Rattle.std.proofs.Common.{◌≡◌, ◌*◌, map}
use Rattle.tce_base.specs.Word.{wrapping_sub}
use Rattle.tce_kernel.proofs.Blocks.{done_to}
use Rattle.tce_kernel.proofs.minus_vs.Given as goal

abbrev pub invariant-loop-block : goal.invariant-loop-block
invariant-loop-block l = l.out ≡ done_to (8 * l.block) (map (λ x. wrapping_sub x l.s) l.a) l.fn.out

abbrev pub invariant-loop-at : goal.invariant-loop-at
invariant-loop-at l = l.out ≡ done_to l.at (map (λ x. wrapping_sub x l.s) l.a) l.fn.out
