use Rattle.std.proofs.Common.{refl, ap, ◌∙◌, arith}
use Rattle.tce_base.specs.Word.{wrapping_sum}
use Rattle.tce_words.proofs.RunSteps.{words_along_part}
use Rattle.tce_words.proofs.sums.sum_run.Goals as goal

pub returns-then-n-eq0 : goal.returns-then-n-eq0
unfolding wrapping_sum
returns-then-n-eq0 c = rw c.if-n-eq0.true refl

pub returns-then-a-eq1 : goal.returns-then-a-eq1
returns-then-a-eq1 c = c.sum.ensures ∙ ap wrapping_sum (words_along_part c.args.words.now c.args.a.first c.args.a.step c.args.n c.if-a-eq1.true (omega arith) c.requires)
