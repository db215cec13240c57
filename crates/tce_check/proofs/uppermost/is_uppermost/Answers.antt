use Rattle.std.proofs.Common.{◌≡◌, ◌+◌, arith, sym, ap, ◌∙◌, subst, drop}
use Rattle.tce_space.proofs.IndexSetLaws.{has_below}
use Rattle.tce_fusion.specs.Row.{Row}
use Rattle.tce_nesting.proofs.Classes.{drop-item}
use Rattle.tce_nesting.proofs.Outermost.{AgreeIn, outermost_later}
use Rattle.tce_check.proofs.Settling.{only_here, some_there, none_there}
use Rattle.tce_check.proofs.uppermost.is_uppermost.Goals as goal

pub returns-then-index : goal.returns-then-index
returns-then-index c next =
    let items = c.classes-class-items.result.now in
    let rest = c.args.rest in
    let here = drop-item items c.loop-class.class-index c.class-item.result c.loop-class-test.true c.class-item.is in
    let same : c.args.row.now.classes ≡ items = sym (c.classes-class-items.ensures.value ∙ ap (λ (r : Row). r.classes) c.row.view_is) in
    c.has.ensures ∙ only_here items (drop (c.loop-class.class-index + 1) items) c.class-item.result rest c.meet-part.result c.args.index c.args.row.now same
    (subst (AgreeIn rest items) here c.loop-class.invariant) c.meet-part.ensures.members
    (some_there c.meet-part.result c.empty.result c.within.result c.empty.ensures.members c.within.ensures c.if-not-within.true) next

pub returns-else-index : goal.returns-else-index
returns-else-index c next = absurd (let low = has_below c.args.rest c.args.index c.bits-bits.ensures.bounded next.inside in omega (arith, low, c.if-index.false))

pub loop-class-preserved : goal.loop-class-preserved
loop-class-preserved c =
    let items = c.classes-class-items.result.now in
    let rest = c.args.rest in
    let here = drop-item items c.loop-class.class-index c.class-item.result c.loop-class-test.true c.class-item.is in
    outermost_later items (drop (c.loop-class.class-index + 1) items) c.class-item.result rest c.meet-part.result (subst (AgreeIn rest items) here c.loop-class.invariant) c.meet-part.ensures.members
    (none_there c.meet-part.result c.empty.result c.within.result c.empty.ensures.members c.within.ensures c.if-not-within.false)
