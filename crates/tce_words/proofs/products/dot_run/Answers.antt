use Rattle.std.proofs.Common.{refl, arith}
use Rattle.tce_base.specs.Word.{wrapping_mul, wrapping_sum}
use Rattle.tce_words.proofs.DotSteps.{dot_of_parts, dot_left_still, dot_right_still}
use Rattle.tce_words.proofs.products.dot_run.Goals as goal

pub returns-then-n-eq0 : goal.returns-then-n-eq0
unfolding wrapping_sum
returns-then-n-eq0 c = rw c.if-n-eq0.true refl

pub returns-in-1-eq1 : goal.returns-in-1-eq1
returns-in-1-eq1 c = dot_of_parts c.args.words.now c.args.a.first c.args.a.step c.args.b.first c.args.b.step c.args.n (omega arith) c.requires.a c.requires.b c.dot.result c.in-1-eq1.is-0 c.in-1-eq1.is-1 c.dot.ensures

pub returns-in-1-eq0 : goal.returns-in-1-eq0
unfolding wrapping_mul
returns-in-1-eq0 c = dot_right_still c.args.words.now c.args.a.first c.args.a.step c.args.b.first c.args.b.step c.args.n (omega arith) c.requires.a c.requires.b c.sum.result c.in-1-eq0.is-0 c.in-1-eq0.is-1 c.sum.ensures

pub returns-in-0-eq1 : goal.returns-in-0-eq1
unfolding wrapping_mul
returns-in-0-eq1 c = dot_left_still c.args.words.now c.args.a.first c.args.a.step c.args.b.first c.args.b.step c.args.n (omega arith) c.requires.a c.requires.b c.sum-in-0-eq1.result c.in-0-eq1.is-0 c.in-0-eq1.is-1 c.sum-in-0-eq1.ensures
