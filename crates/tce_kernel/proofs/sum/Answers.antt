use Rattle.std.proofs.Common.{◌*◌, sym, ◌∙◌, refl, arith}
use Rattle.std.specs.Simd.Lanes.{chunk}
use Rattle.std.proofs.lemmas.Simd.{length-zip2, length-chunk}
use Rattle.tce_base.specs.Word.{wrapping_add, wrapping_sum}
use Rattle.tce_kernel.proofs.Sums.{block_summed, lanes_summed, word_summed}
use Rattle.tce_kernel.proofs.sum.Goals as goal

pub loop-block-init : goal.loop-block-init
unfolding wrapping_sum
loop-block-init c = record { whole_row = refl; summed = refl }

pub loop-block-preserved : goal.loop-block-preserved
unfolding wrapping_add wrapping_sum
loop-block-preserved c =
    let at = 8 * c.loop-block.block in let a = c.args.a.now in record {
      whole_row = length-zip2 wrapping_add c.loop-block.lanes (chunk at 8 a) (c.loop-block.invariant.whole_row ∙ sym (length-chunk at 8 a (omega arith))) ∙ c.loop-block.invariant.whole_row;
      summed = block_summed at 8 _ a c.loop-block.lanes _ c.loop-block.invariant.whole_row c.loop-block.invariant.summed refl (omega arith) (omega arith);
    }

pub loop-at-init : goal.loop-at-init
unfolding wrapping_add
loop-at-init c = lanes_summed (8 * c.loop-block.block) _ c.args.a.now c.loop-block.lanes c.loop-block.invariant.summed (omega arith) (omega arith)

pub loop-at-preserved : goal.loop-at-preserved
loop-at-preserved c = word_summed c.loop-at.at _ c.loop-at.total c.args.a.now c.loop-at.invariant refl (omega arith)
