use Rattle.std.proofs.Common.{◌+◌, refl, drop, subst}
use Rattle.std.proofs.lemmas.List.{drop_all}
use Rattle.tce_fusion.specs.Relation.{above}
use Rattle.tce_nesting.specs.Classes.{AreOutermost}
use Rattle.tce_nesting.proofs.Classes.{drop-item}
use Rattle.tce_nesting.proofs.Joins.{inhabited_from}
use Rattle.tce_nesting.proofs.Outermost.{AgreeIn, outermost_here, outermost_later, outermost_all}
use Rattle.tce_nesting.proofs.nesting.Nesting.outermost.Goals as goal

pub loop-class-init : goal.loop-class-init
loop-class-init c = λ i j _ _. refl

pub returns-then-not-is_empty : goal.returns-then-not-is_empty
returns-then-not-is_empty c =
    let items = c.classes-class-items.result.now in
    let rest = c.args.rest in
    let here = drop-item items c.loop-class.class-index c.class-item.result c.loop-class-test.true c.class-item.is in
    subst (λ cs. AreOutermost (above cs) rest c.meet-part.result) c.classes-class-items.ensures.value
    (outermost_here items (drop (c.loop-class.class-index + 1) items) c.class-item.result rest c.meet-part.result (subst (AgreeIn rest items) here c.loop-class.invariant) c.meet-part.ensures.members
    (inhabited_from c.meet-part.result c.is_empty.result c.is_empty.ensures.none c.if-not-is_empty.true))

pub loop-class-preserved : goal.loop-class-preserved
loop-class-preserved c =
    let items = c.classes-class-items.result.now in
    let rest = c.args.rest in
    let here = drop-item items c.loop-class.class-index c.class-item.result c.loop-class-test.true c.class-item.is in
    outermost_later items (drop (c.loop-class.class-index + 1) items) c.class-item.result rest c.meet-part.result (subst (AgreeIn rest items) here c.loop-class.invariant) c.meet-part.ensures.members
    (c.is_empty.ensures.none.0 c.if-not-is_empty.false)

pub returns : goal.returns
returns c =
    let items = c.classes-class-items.result.now in
    let rest = c.args.rest in
    subst (λ cs. AreOutermost (above cs) rest rest) c.classes-class-items.ensures.value
    (outermost_all items rest (subst (AgreeIn rest items) (drop_all c.loop-class.class-index items c.loop-class-test.false) c.loop-class.invariant))
