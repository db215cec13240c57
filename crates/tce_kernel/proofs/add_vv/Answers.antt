use Rattle.std.proofs.Common.{◌*◌, refl, arith}
use Rattle.tce_base.specs.Word.{wrapping_add}
use Rattle.tce_kernel.proofs.Blocks.{block_joined, word_joined, all_joined}
use Rattle.tce_kernel.proofs.add_vv.Goals as goal

pub loop-block-preserved : goal.loop-block-preserved
unfolding wrapping_add
loop-block-preserved c = block_joined wrapping_add (8 * c.loop-block.block) 8 _ c.args.a.now _ c.args.out.now c.loop-block.out c.loop-block.invariant c.requires (omega arith) (omega arith) refl

pub loop-at-preserved : goal.loop-at-preserved
unfolding wrapping_add
loop-at-preserved c = word_joined wrapping_add c.loop-at.at _ c.args.a.now c.args.out.now c.loop-at.out c.loop-at.invariant c.requires (omega arith) refl

pub returns : goal.returns
returns c = all_joined wrapping_add c.loop-at.at c.args.a.now c.args.out.now c.loop-at.out c.loop-at.invariant c.requires (omega arith)
