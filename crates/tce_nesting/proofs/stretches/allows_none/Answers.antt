use Rattle.std.proofs.Common.{◌+◌, subst, drop}
use Rattle.std.proofs.lemmas.Bool.{both_ways}
use Rattle.tce_fusion.specs.Relation.{above}
use Rattle.tce_nesting.proofs.Classes.{drop-item}
use Rattle.tce_nesting.specs.Ends.{IsTopOf}
use Rattle.tce_nesting.proofs.Tops.{IsReached, reached_further, reached_is_top}
use Rattle.tce_nesting.proofs.StretchParts.{none_between}
use Rattle.std.proofs.lemmas.Bool.{false≢true}
use Rattle.tce_nesting.proofs.Tops.{reached_none}
use Rattle.tce_nesting.proofs.stretches.allows_none.Goals as goal

pub returns-then-not-within-2 : goal.returns-then-not-within-2
returns-then-not-within-2 c h fused low high allowed =
    let items = c.classes-class-items.result.now in
    let rest = drop (c.loop-class.class-index + 1) items in
    let here = drop-item items c.loop-class.class-index c.class-item.result c.loop-class-test.true c.class-item.is in
    let further = reached_further c.args.loops c.class-item.result c.meet.result items rest c.loop-class.reached c.union-reached.result c.meet.ensures.members c.union-reached.ensures.members
    (subst (λ cs. IsReached c.args.loops items cs c.loop-class.reached) here c.loop-class.invariant) in
    none_between c.args.loops c.union-reached.result c.meet-lower.result c.args.stretch.now.common c.args.stretch.now.all c.args.classes.now
    (subst (λ cs. IsTopOf c.args.loops (above cs) c.union-reached.result) c.classes-class-items.ensures.value (reached_is_top c.args.loops items rest c.union-reached.result further)) c.meet-lower.ensures.members
    (λ w. both_ways c.within.result c.if-not-within.true (c.within.ensures.1 w))
    (λ w. both_ways c.within-then-not-within.result c.if-not-within-2.true (c.within-then-not-within.ensures.1 w))
    fused low high allowed

pub loop-class-init : goal.loop-class-init
loop-class-init c = reached_none c.args.loops c.classes-class-items.result.now c.empty-reached.result c.empty-reached.ensures.members

pub loop-class-preserved : goal.loop-class-preserved
loop-class-preserved c =
    let items = c.classes-class-items.result.now in
    let here = drop-item items c.loop-class.class-index c.class-item.result c.loop-class-test.true c.class-item.is in
    reached_further c.args.loops c.class-item.result c.meet.result items (drop (c.loop-class.class-index + 1) items) c.loop-class.reached c.union-reached.result
    c.meet.ensures.members c.union-reached.ensures.members (subst (λ cs. IsReached c.args.loops items cs c.loop-class.reached) here c.loop-class.invariant)

pub returns : goal.returns
returns c h = absurd (false≢true h)
