use Rattle.std.proofs.Common.{arith, sym, subst}
use Rattle.tce_nesting.specs.Stretches.{IsStretch}
use Rattle.tce_nesting.proofs.stretches.stretch_from.Goals as goal

pub loop-stretch-smaller : goal.loop-stretch-smaller
loop-stretch-smaller c =
    let choices = c.args.choices.now in
    let until = c.loop-stretch.stretch.until in
    let next = c.requires.later until c.index-stretches-stretch.result (omega (arith, c.loop-stretch.invariant.later)) c.loop-stretch-test.true in
    let there = subst (IsStretch choices until) (sym c.index-stretches-stretch.is) next in
    omega (arith, there.later, c.together-stretch.ensures.until, c.loop-stretch-test.true)

pub loop-stretch-preserved : goal.loop-stretch-preserved
loop-stretch-preserved c =
    let choices = c.args.choices.now in
    let until = c.loop-stretch.stretch.until in
    let next = c.requires.later until c.index-stretches-stretch.result (omega (arith, c.loop-stretch.invariant.later)) c.loop-stretch-test.true in
    c.together-stretch.ensures.whole choices c.args.place c.loop-stretch.invariant (subst (IsStretch choices until) (sym c.index-stretches-stretch.is) next)
