use Rattle.std.proofs.Common.{◌≡◌, ◌*◌, length, sym, ◌∙◌, arith}
use Rattle.std.specs.Simd.Lanes.{zip2}
use Rattle.std.proofs.lemmas.Simd.{length-zip2, get_or-zip2}
use Rattle.tce_base.specs.Word.{wrapping_add, wrapping_mul}
use Rattle.tce_kernel.proofs.Blocks.{block_joined, word_joined, all_joined, chunk-zip2}
use Rattle.tce_kernel.proofs.mul_add_vv.Goals as goal

pub loop-block-preserved : goal.loop-block-preserved
unfolding wrapping_add wrapping_mul
loop-block-preserved c =
    let long : length (zip2 wrapping_mul c.args.a.now c.args.b.now) ≡ length c.args.out.now = length-zip2 wrapping_mul c.args.a.now c.args.b.now (omega arith) ∙ c.requires.a in
    block_joined wrapping_add (8 * c.loop-block.block) 8 _ (zip2 wrapping_mul c.args.a.now c.args.b.now) _ c.args.out.now c.loop-block.out c.loop-block.invariant long (omega arith) (omega arith)
    (sym (chunk-zip2 wrapping_mul (8 * c.loop-block.block) 8 c.args.a.now c.args.b.now))

pub loop-at-preserved : goal.loop-at-preserved
unfolding wrapping_add wrapping_mul
loop-at-preserved c =
    let long : length (zip2 wrapping_mul c.args.a.now c.args.b.now) ≡ length c.args.out.now = length-zip2 wrapping_mul c.args.a.now c.args.b.now (omega arith) ∙ c.requires.a in
    word_joined wrapping_add c.loop-at.at _ (zip2 wrapping_mul c.args.a.now c.args.b.now) c.args.out.now c.loop-at.out c.loop-at.invariant long (omega arith)
    (sym (get_or-zip2 wrapping_mul c.args.a.now c.args.b.now c.loop-at.at 0 0 0 (omega arith) (omega arith)))

pub returns : goal.returns
returns c =
    let long : length (zip2 wrapping_mul c.args.a.now c.args.b.now) ≡ length c.args.out.now = length-zip2 wrapping_mul c.args.a.now c.args.b.now (omega arith) ∙ c.requires.a in
    all_joined wrapping_add c.loop-at.at (zip2 wrapping_mul c.args.a.now c.args.b.now) c.args.out.now c.loop-at.out c.loop-at.invariant long (omega arith)
