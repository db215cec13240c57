use Rattle.std.proofs.Common.{◌*◌, arith}
use Rattle.tce_base.specs.Word.{wrapping_sub}
use Rattle.tce_kernel.proofs.Blocks.{block_of_one, word_of_one, all_of_one, chunk_splat}
use Rattle.tce_kernel.proofs.minus_vs.Goals as goal

pub loop-block-preserved : goal.loop-block-preserved
unfolding wrapping_sub
loop-block-preserved c =
    block_of_one (λ x. wrapping_sub x c.args.s) (8 * c.loop-block.block) 8 _ c.args.a.now c.args.out.now c.loop-block.out _ c.loop-block.invariant c.requires (omega arith) (omega arith)
    (chunk_splat wrapping_sub 8 c.args.s (8 * c.loop-block.block) c.args.a.now (omega arith))

pub loop-at-preserved : goal.loop-at-preserved
unfolding wrapping_sub
loop-at-preserved c = word_of_one (λ x. wrapping_sub x c.args.s) c.loop-at.at c.args.a.now c.args.out.now c.loop-at.out c.loop-at.invariant c.requires (omega arith)

pub returns : goal.returns
returns c = all_of_one (λ x. wrapping_sub x c.args.s) c.loop-at.at c.args.a.now c.args.out.now c.loop-at.out c.loop-at.invariant c.requires (omega arith)
