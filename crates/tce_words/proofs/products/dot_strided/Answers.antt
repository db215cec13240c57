use Rattle.std.proofs.Common.{refl, arith}
use Rattle.tce_base.specs.Word.{wrapping_mul, wrapping_sum}
use Rattle.tce_words.proofs.DotSteps.{product_summed, all_summed}
use Rattle.tce_words.proofs.products.dot_strided.Goals as goal

pub loop-t-init : goal.loop-t-init
unfolding wrapping_sum
loop-t-init c = refl

pub loop-t-preserved : goal.loop-t-preserved
unfolding wrapping_mul
loop-t-preserved c = product_summed c.args.words.now c.args.a.first c.args.a.step c.args.b.first c.args.b.step c.args.n c.loop-t.t c.loop-t.total c.loop-t.invariant c.loop-t-test.true

pub returns : goal.returns
returns c = all_summed c.args.words.now c.args.a.first c.args.a.step c.args.b.first c.args.b.step c.args.n c.loop-t.t c.loop-t.total c.loop-t.invariant (omega arith)
