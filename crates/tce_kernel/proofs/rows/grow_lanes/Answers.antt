use Rattle.std.proofs.Common.{◌≡◌, length, refl, ◌∙◌, subst, arith}
use Rattle.std.specs.Simd.Lanes.{chunk}
use Rattle.tce_base.specs.Word.{wrapping_add, wrapping_mul}
use Rattle.tce_kernel.specs.Scaled.{with_rows}
use Rattle.tce_kernel.proofs.Blocks.{done_all, done_block}
use Rattle.tce_kernel.proofs.RowBlocks.{lanes_more, length-with_rows}
use Rattle.tce_kernel.proofs.rows.grow_lanes.Goals as goal

pub loop-k-preserved : goal.loop-k-preserved
unfolding wrapping_add wrapping_mul
loop-k-preserved c =
    let room = c.requires.rows c.loop-k.k c.loop-k-test.true in
    lanes_more 0 8 c.loop-k.k _ c.args.out.now c.args.factors.now c.args.factor_step c.args.rows.now c.args.row_step c.loop-k.lanes (omega arith) (omega (arith, room)) (omega arith) c.loop-k.invariant

pub returns : goal.returns
returns c =
    let old = c.args.out.now in
    let whole = with_rows old c.args.factors.now c.args.factor_step c.args.rows.now c.args.row_step c.args.count in
    let end : c.loop-k.k ≡ c.args.count = omega arith in
    let made : c.loop-k.lanes ≡ chunk 0 8 whole = subst (λ k. c.loop-k.lanes ≡ chunk 0 8 (with_rows old c.args.factors.now c.args.factor_step c.args.rows.now c.args.row_step k)) end c.loop-k.invariant in
    let long : length whole ≡ length old = length-with_rows old c.args.factors.now c.args.factor_step c.args.rows.now c.args.row_step c.args.count (λ j lt. omega (arith, c.requires.rows j lt)) in
    done_block 0 8 8 whole old old c.loop-k.lanes refl long refl (omega arith) made ∙ done_all 8 whole old long (omega arith)
