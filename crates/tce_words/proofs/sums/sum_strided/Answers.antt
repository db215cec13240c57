use Rattle.std.proofs.Common.{refl, ap, ◌∙◌, arith}
use Rattle.std.proofs.lemmas.List.{take_all}
use Rattle.std.proofs.lemmas.List.Sums.{sum_by_more}
use Rattle.tce_base.specs.Word.{wrapping_sum}
use Rattle.tce_words.specs.Run.{words_along}
use Rattle.tce_words.proofs.RunSteps.{length-words_along, get_or-words_along}
use Rattle.tce_words.proofs.sums.sum_strided.Goals as goal

pub loop-t-init : goal.loop-t-init
unfolding wrapping_sum
loop-t-init c = refl

pub loop-t-preserved : goal.loop-t-preserved
unfolding wrapping_sum
loop-t-preserved c =
    let xs = c.args.words.now in let ps = words_along xs c.args.a.first c.args.a.step c.args.n in
    omega (arith, c.loop-t.invariant, get_or-words_along xs c.args.a.first c.args.a.step c.args.n c.loop-t.t c.loop-t-test.true, sum_by_more (λ k. k) ps c.loop-t.t 0 (omega (arith, length-words_along xs c.args.a.first c.args.a.step c.args.n)))

pub returns : goal.returns
returns c =
    let xs = c.args.words.now in let ps = words_along xs c.args.a.first c.args.a.step c.args.n in
    c.loop-t.invariant ∙ ap wrapping_sum (take_all c.loop-t.t ps (omega (arith, length-words_along xs c.args.a.first c.args.a.step c.args.n)))
