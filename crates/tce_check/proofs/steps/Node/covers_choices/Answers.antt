use Rattle.std.proofs.Common.{length, ap, subst, get_or}
use Rattle.std.proofs.lemmas.List.Elements.{AllWithin-none}
use Rattle.tce_fusion.specs.Relation.{above}
use Rattle.tce_fusion.specs.Row.{Row}
use Rattle.tce_nesting.specs.Stretches.{AllowsNone}
use Rattle.tce_nesting.proofs.StretchParts.{stretch_passed}
use Rattle.tce_check.specs.Joint.{ChoiceCovered}
use Rattle.tce_check.proofs.Firsts.{one_more, all_passed, fewer_left, one_less, untold}
use Rattle.tce_check.proofs.steps.Node.covers_choices.Goals as goal

pub loop-place-preserved-then-allows_none : goal.loop-place-preserved-then-allows_none
loop-place-preserved-then-allows_none c =
    let node = c.args.self.now in
    let place = c.loop-place.place in
    let stretch = get_or node.stretches.now place c.index-self-place.result in
    stretch_passed (ChoiceCovered node.outer node.rows.now c.args.joint.now) place c.args.joint.now.classes node.choices.now stretch
    (c.requires.ready.stretches.each place c.index-self-place.result c.loop-place-test.true)
    (subst (λ (r : Row). AllowsNone (above r.classes) stretch.common stretch.all) c.joint.view_is (c.allows_none.ensures c.if-allows_none.true))
    (λ x none allowed. absurd (none allowed)) c.loop-place.invariant

pub loop-place-smaller-then-allows_none : goal.loop-place-smaller-then-allows_none
loop-place-smaller-then-allows_none c =
    let is = c.requires.ready.stretches.each c.loop-place.place c.index-self-place.result c.loop-place-test.true in
    fewer_left (length c.args.self.now.choices.now) c.loop-place.place _ is.later is.inside

pub loop-place-preserved : goal.loop-place-preserved
loop-place-preserved c =
    let node = c.args.self.now in
    let place = c.loop-place.place in
    let choice = c.index-self-place-in-loop-place.result in
    one_more (ChoiceCovered node.outer node.rows.now c.args.joint.now) node.choices.now place (get_or node.choices.now place choice)
    c.loop-place-test.true (ap (get_or node.choices.now place) c.index-self-place-in-loop-place.is) c.loop-place.invariant (c.covers_choice.ensures c.if-not-covers_choice.false)

pub loop-place-init : goal.loop-place-init
loop-place-init c = AllWithin-none (ChoiceCovered c.args.self.now.outer c.args.self.now.rows.now c.args.joint.now) c.args.self.now.choices.now 0

pub covers_choice-requires-clause-ready : goal.covers_choice-requires-clause-ready
covers_choice-requires-clause-ready c = c.requires.ready

pub covers_choice-requires-clause-small : goal.covers_choice-requires-clause-small
covers_choice-requires-clause-small c = c.requires.small

pub covers_choice-requires-clause-size : goal.covers_choice-requires-clause-size
covers_choice-requires-clause-size c = c.requires.ready.sizes c.loop-place.place c.index-self-place-in-loop-place.result c.loop-place-test.true

pub returns-then-not-covers_choice : goal.returns-then-not-covers_choice
returns-then-not-covers_choice c = untold

pub loop-place-smaller : goal.loop-place-smaller
loop-place-smaller c = one_less (length c.args.self.now.choices.now) c.loop-place.place c.loop-place-test.true

pub returns : goal.returns
returns c _ =
    let node = c.args.self.now in
    all_passed (ChoiceCovered node.outer node.rows.now c.args.joint.now) node.choices.now c.loop-place.place c.loop-place-test.false c.loop-place.invariant
