use Rattle.std.proofs.Common.{◌≡◌, ◌*◌, length, refl, sym, ◌∙◌, arith}
use Rattle.std.specs.Simd.Lanes.{zip2, chunk}
use Rattle.std.proofs.lemmas.Simd.{length-zip2, get_or-zip2, length-chunk}
use Rattle.tce_base.specs.Word.{wrapping_add, wrapping_mul, wrapping_sum}
use Rattle.tce_kernel.proofs.Blocks.{chunk-zip2}
use Rattle.tce_kernel.proofs.Sums.{block_summed, lanes_summed, word_summed, all_summed}
use Rattle.tce_kernel.proofs.dot.Goals as goal

pub loop-block-init : goal.loop-block-init
unfolding wrapping_sum
loop-block-init c = record { whole_row = refl; summed = refl }

pub loop-block-preserved : goal.loop-block-preserved
unfolding wrapping_add wrapping_mul wrapping_sum
loop-block-preserved c =
    let at = 8 * c.loop-block.block in let a = c.args.a.now in let b = c.args.b.now in
    let chunked : chunk at 8 (zip2 wrapping_mul a b) ≡ zip2 wrapping_mul (chunk at 8 a) (chunk at 8 b) = chunk-zip2 wrapping_mul at 8 a b in
    let long : length (zip2 wrapping_mul a b) ≡ length a = length-zip2 wrapping_mul a b (sym c.requires) in
    let eight : length (zip2 wrapping_mul (chunk at 8 a) (chunk at 8 b)) ≡ 8 =
    length-zip2 wrapping_mul (chunk at 8 a) (chunk at 8 b) (length-chunk at 8 a (omega arith) ∙ sym (length-chunk at 8 b (omega arith))) ∙ length-chunk at 8 a (omega arith) in record {
      whole_row = length-zip2 wrapping_add c.loop-block.lanes (zip2 wrapping_mul (chunk at 8 a) (chunk at 8 b)) (c.loop-block.invariant.whole_row ∙ sym eight) ∙ c.loop-block.invariant.whole_row;
      summed = block_summed at 8 _ (zip2 wrapping_mul a b) c.loop-block.lanes _ c.loop-block.invariant.whole_row c.loop-block.invariant.summed (sym chunked) (omega arith) (omega arith);
    }

pub loop-at-init : goal.loop-at-init
unfolding wrapping_add wrapping_mul wrapping_sum
loop-at-init c = lanes_summed (8 * c.loop-block.block) _ (zip2 wrapping_mul c.args.a.now c.args.b.now) c.loop-block.lanes c.loop-block.invariant.summed (omega arith) (omega arith)

pub loop-at-preserved : goal.loop-at-preserved
unfolding wrapping_add wrapping_mul wrapping_sum
loop-at-preserved c =
    let a = c.args.a.now in let b = c.args.b.now in
    let long : length (zip2 wrapping_mul a b) ≡ length a = length-zip2 wrapping_mul a b (sym c.requires) in
    word_summed c.loop-at.at _ c.loop-at.total (zip2 wrapping_mul a b) c.loop-at.invariant (sym (get_or-zip2 wrapping_mul a b c.loop-at.at 0 0 0 (omega arith) (omega arith))) (omega arith)

pub returns : goal.returns
returns c =
    let a = c.args.a.now in let b = c.args.b.now in
    let long : length (zip2 wrapping_mul a b) ≡ length a = length-zip2 wrapping_mul a b (sym c.requires) in
    all_summed c.loop-at.at c.loop-at.total (zip2 wrapping_mul a b) c.loop-at.invariant (omega arith)
