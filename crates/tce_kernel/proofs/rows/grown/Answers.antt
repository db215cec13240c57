use Rattle.std.proofs.Common.{arith}
use Rattle.tce_base.specs.Word.{wrapping_add, wrapping_mul}
use Rattle.tce_kernel.proofs.RowBlocks.{word_more}
use Rattle.tce_kernel.proofs.rows.grown.Goals as goal

pub loop-k-preserved : goal.loop-k-preserved
unfolding wrapping_add wrapping_mul
loop-k-preserved c =
    let room = c.requires.rows c.loop-k.k c.loop-k-test.true in
    word_more c.loop-k.k c.loop-k.total c.args.word c.args.factors.now c.args.factor_step c.args.rows.now c.args.row_step (omega (arith, room)) c.loop-k.invariant
