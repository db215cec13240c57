use Rattle.std.proofs.Common.{◌*◌, arith}
use Rattle.tce_base.specs.Word.{wrapping_sub}
use Rattle.tce_kernel.proofs.Blocks.{block_of_two, word_of_two, all_of_two}
use Rattle.tce_kernel.proofs.minus_vv.Goals as goal

pub loop-block-preserved : goal.loop-block-preserved
unfolding wrapping_sub
loop-block-preserved c =
    block_of_two wrapping_sub (8 * c.loop-block.block) 8 _ c.args.a.now c.args.b.now c.args.out.now c.loop-block.out c.loop-block.invariant c.requires.a c.requires.b (omega arith) (omega arith)

pub loop-at-preserved : goal.loop-at-preserved
unfolding wrapping_sub
loop-at-preserved c = word_of_two wrapping_sub c.loop-at.at c.args.a.now c.args.b.now c.args.out.now c.loop-at.out c.loop-at.invariant c.requires.a c.requires.b (omega arith)

pub returns : goal.returns
returns c = all_of_two wrapping_sub c.loop-at.at c.args.a.now c.args.b.now c.args.out.now c.loop-at.out c.loop-at.invariant c.requires.a c.requires.b (omega arith)
