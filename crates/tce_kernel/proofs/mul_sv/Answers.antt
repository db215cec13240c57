use Rattle.std.proofs.Common.{◌*◌, arith}
use Rattle.tce_base.specs.Word.{wrapping_mul}
use Rattle.tce_kernel.proofs.Blocks.{block_of_one, word_of_one, all_of_one, splat_chunk}
use Rattle.tce_kernel.proofs.mul_sv.Goals as goal

pub loop-block-preserved : goal.loop-block-preserved
unfolding wrapping_mul
loop-block-preserved c =
    block_of_one (wrapping_mul c.args.s) (8 * c.loop-block.block) 8 _ c.args.b.now c.args.out.now c.loop-block.out _ c.loop-block.invariant c.requires (omega arith) (omega arith)
    (splat_chunk wrapping_mul 8 c.args.s (8 * c.loop-block.block) c.args.b.now (omega arith))

pub loop-at-preserved : goal.loop-at-preserved
unfolding wrapping_mul
loop-at-preserved c = word_of_one (wrapping_mul c.args.s) c.loop-at.at c.args.b.now c.args.out.now c.loop-at.out c.loop-at.invariant c.requires (omega arith)

pub returns : goal.returns
returns c = all_of_one (wrapping_mul c.args.s) c.loop-at.at c.args.b.now c.args.out.now c.loop-at.out c.loop-at.invariant c.requires (omega arith)
