use Rattle.std.proofs.Math.ListN.{drop_of_length-le}
use Rattle.std.proofs.Common.{◌+◌, refl, subst, sym, drop}
use Rattle.std.proofs.lemmas.Bool.{false≢true, both_ways}
use Rattle.tce_fusion.specs.Relation.{above, IsCoarser}
use Rattle.tce_nesting.proofs.Classes.{drop-item, coarser_next, coarser_never, coarser_end}
use Rattle.tce_nesting.proofs.nesting.Nesting.coarser.Goals as goal

pub returns : goal.returns
returns c =
    let items = c.classes-outer-items.result.now in
    let end = drop_of_length-le items c.loop-outer-test.false in
    rw (← c.classes-outer-items.ensures.value)
    (λ _. (rw end at c.loop-outer.invariant).1 (coarser_end c.loop-outer.below (above c.args.other.now)), λ _. refl)

pub loop-outer-init : goal.loop-outer-init
loop-outer-init c = (λ h. h, λ h. h)

pub loop-outer-preserved : goal.loop-outer-preserved
loop-outer-preserved c =
    let items = c.classes-outer-items.result.now in
    let k = c.loop-outer.outer-index in
    coarser_next c.args.loops c.loop-outer.below c.minus-below.result c.meet-upper.result c.outer-item.result (drop (k + 1) items) (drop k items) (above items)
    (above c.args.other.now) c.meet-upper.ensures.members c.minus-below.ensures.members
    (drop-item items k c.outer-item.result c.loop-outer-test.true c.outer-item.is) c.loop-outer.invariant (c.separates.ensures.0 c.if-not-separates.false)

pub returns-then-not-separates : goal.returns-then-not-separates
returns-then-not-separates c =
    let items = c.classes-outer-items.result.now in
    let k = c.loop-outer.outer-index in
    let never = coarser_never c.args.loops c.loop-outer.below c.minus-below.result c.meet-upper.result c.outer-item.result (drop (k + 1) items) (drop k items) (above items)
    (above c.args.other.now) c.meet-upper.ensures.members c.minus-below.ensures.members
    (drop-item items k c.outer-item.result c.loop-outer-test.true c.outer-item.is) c.loop-outer.invariant
    (λ all. both_ways c.separates.result c.if-not-separates.true (c.separates.ensures.1 all)) in (
      λ h. absurd (false≢true h),
      λ h. absurd (never (subst (λ cs. IsCoarser c.args.loops (above cs) (above c.args.other.now)) (sym c.classes-outer-items.ensures.value) h)),
    )
