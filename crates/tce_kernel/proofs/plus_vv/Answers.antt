use Rattle.std.proofs.Common.{◌*◌, arith}
use Rattle.tce_base.specs.Word.{wrapping_add}
use Rattle.tce_kernel.proofs.Blocks.{block_of_two, word_of_two, all_of_two}
use Rattle.tce_kernel.proofs.plus_vv.Goals as goal

pub loop-block-preserved : goal.loop-block-preserved
unfolding wrapping_add
loop-block-preserved c =
    block_of_two wrapping_add (8 * c.loop-block.block) 8 _ c.args.a.now c.args.b.now c.args.out.now c.loop-block.out c.loop-block.invariant c.requires.a c.requires.b (omega arith) (omega arith)

pub loop-at-preserved : goal.loop-at-preserved
unfolding wrapping_add
loop-at-preserved c = word_of_two wrapping_add c.loop-at.at c.args.a.now c.args.b.now c.args.out.now c.loop-at.out c.loop-at.invariant c.requires.a c.requires.b (omega arith)

pub returns : goal.returns
returns c = all_of_two wrapping_add c.loop-at.at c.args.a.now c.args.b.now c.args.out.now c.loop-at.out c.loop-at.invariant c.requires.a c.requires.b (omega arith)
