use Rattle.std.proofs.Common.{◌≡◌, ℕ, List, length, refl, ◌∙◌, subst, arith}
use Rattle.std.specs.Simd.Lanes.{chunk}
use Rattle.tce_base.specs.Word.{wrapping_add, wrapping_mul}
use Rattle.tce_kernel.specs.Scaled.{with_rows}
use Rattle.tce_kernel.proofs.Blocks.{done_all, done_block}
use Rattle.tce_kernel.proofs.RowBlocks.{lanes_more, length-with_rows}
use Rattle.tce_kernel.proofs.rows.grow_wide.Goals as goal

pub loop-k-preserved : goal.loop-k-preserved
unfolding wrapping_add wrapping_mul
loop-k-preserved c =
    let room = c.requires.rows c.loop-k.k c.loop-k-test.true in
    let old = c.args.out.now in let factors = c.args.factors.now in let rows = c.args.rows.now in
    record {
      first = lanes_more 0 8 c.loop-k.k _ old factors c.args.factor_step rows c.args.row_step c.loop-k.a (omega arith) (omega (arith, room)) (omega arith) c.loop-k.invariant.first;
      second = lanes_more 8 8 c.loop-k.k _ old factors c.args.factor_step rows c.args.row_step c.loop-k.b (omega arith) (omega (arith, room)) (omega arith) c.loop-k.invariant.second;
      third = lanes_more 16 8 c.loop-k.k _ old factors c.args.factor_step rows c.args.row_step c.loop-k.c (omega arith) (omega (arith, room)) (omega arith) c.loop-k.invariant.third;
      fourth = lanes_more 24 8 c.loop-k.k _ old factors c.args.factor_step rows c.args.row_step c.loop-k.d (omega arith) (omega (arith, room)) (omega arith) c.loop-k.invariant.fourth;
    }

pub returns : goal.returns
returns c =
    let old = c.args.out.now in
    let whole = with_rows old c.args.factors.now c.args.factor_step c.args.rows.now c.args.row_step c.args.count in
    let end : c.loop-k.k ≡ c.args.count = omega arith in
    let made : (at : ℕ) (lanes : List ℕ) → lanes ≡ chunk at 8 (with_rows old c.args.factors.now c.args.factor_step c.args.rows.now c.args.row_step c.loop-k.k) → lanes ≡ chunk at 8 whole =
    λ at lanes. subst (λ k. lanes ≡ chunk at 8 (with_rows old c.args.factors.now c.args.factor_step c.args.rows.now c.args.row_step k)) end in
    let long : length whole ≡ length old = length-with_rows old c.args.factors.now c.args.factor_step c.args.rows.now c.args.row_step c.args.count (λ j lt. omega (arith, c.requires.rows j lt)) in
    done_block 24 8 32 whole old _ c.loop-k.d
    (done_block 16 8 24 whole old _ c.loop-k.c
    (done_block 8 8 16 whole old _ c.loop-k.b
    (done_block 0 8 8 whole old old c.loop-k.a refl long refl (omega arith) (made 0 c.loop-k.a c.loop-k.invariant.first))
    long refl (omega arith) (made 8 c.loop-k.b c.loop-k.invariant.second))
    long refl (omega arith) (made 16 c.loop-k.c c.loop-k.invariant.third))
    long refl (omega arith) (made 24 c.loop-k.d c.loop-k.invariant.fourth)
    ∙ done_all 32 whole old long (omega arith)
