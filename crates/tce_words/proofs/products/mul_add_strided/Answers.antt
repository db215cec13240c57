use Rattle.std.proofs.Common.{refl}
use Rattle.tce_base.specs.Word.{wrapping_add, wrapping_mul}
use Rattle.tce_words.proofs.RunSteps.{unread, own_unread, run_more}
use Rattle.tce_words.proofs.products.mul_add_strided.Goals as goal

pub loop-t-preserved : goal.loop-t-preserved
unfolding wrapping_add wrapping_mul
loop-t-preserved c =
    let old = c.args.words.now in
    let a_word = unread _ c.args.out.first c.args.out.step c.args.a.first c.args.a.step c.loop-t.t c.args.n old c.loop-t.words c.loop-t.invariant c.requires.apart_from_a c.loop-t-test.true in
    let b_word = unread _ c.args.out.first c.args.out.step c.args.b.first c.args.b.step c.loop-t.t c.args.n old c.loop-t.words c.loop-t.invariant c.requires.apart_from_b c.loop-t-test.true in
    let own_word = own_unread _ c.args.out.first c.args.out.step c.loop-t.t c.args.n old c.loop-t.words c.loop-t.invariant c.requires.distinct c.loop-t-test.true in
    run_more _ c.args.out.first c.args.out.step c.loop-t.t c.args.n _ old c.loop-t.words c.loop-t.invariant c.requires.distinct c.loop-t-test.true (c.requires.out c.loop-t.t c.loop-t-test.true)
    (rw (a_word, b_word, own_word) refl)
