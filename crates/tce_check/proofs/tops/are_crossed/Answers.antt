use Rattle.std.proofs.Common.{◌+◌, arith, drop, sym, subst}
use Rattle.std.proofs.lemmas.Bool.{both_ways}
use Rattle.tce_fusion.specs.Relation.{above}
use Rattle.tce_fusion.specs.Row.{Row}
use Rattle.tce_nesting.specs.Ends.{IsTopOf}
use Rattle.tce_nesting.proofs.Classes.{drop-item}
use Rattle.tce_nesting.proofs.Tops.{IsReached, reached_further, reached_is_top, tops_do_not_cross}
use Rattle.tce_check.proofs.tops.are_crossed.Goals as goal

pub loop-class-preserved : goal.loop-class-preserved
loop-class-preserved c =
    let items = c.classes-class-items.result.now in
    let here = drop-item items c.loop-class.class-index c.class-item.result c.loop-class-test.true c.class-item.is in
    reached_further c.args.loops c.class-item.result c.meet.result items (drop (c.loop-class.class-index + 1) items) c.loop-class.reached c.union-reached.result c.meet.ensures.members c.union-reached.ensures.members
    (subst (λ cs. IsReached c.args.loops items cs c.loop-class.reached) here c.loop-class.invariant)

pub returns-then-not-within-2 : goal.returns-then-not-within-2
returns-then-not-within-2 c _ left are quiet =
    let loops = c.args.loops in
    let items = c.classes-class-items.result.now in
    let rest = drop (c.loop-class.class-index + 1) items in
    let here = drop-item items c.loop-class.class-index c.class-item.result c.loop-class-test.true c.class-item.is in
    let wider = c.union-reached.result in
    let reached = reached_further loops c.class-item.result c.meet.result items rest c.loop-class.reached wider c.meet.ensures.members c.union-reached.ensures.members
    (subst (λ cs. IsReached loops items cs c.loop-class.reached) here c.loop-class.invariant) in
    let own = subst (λ cs. IsTopOf loops (above cs) wider) c.classes-class-items.ensures.value (reached_is_top loops items rest wider reached) in
    let its = subst (λ (r : Row). IsTopOf loops (above r.classes) wider) c.row.view_is own in
    let place = c.place_beyond-place.result in
    let top = c.index-tops-place.result in
    let that : IsTopOf loops (above left.classes) top = subst (IsTopOf loops (above left.classes)) (sym c.index-tops-place.is) (are place top (omega arith)) in
    tops_do_not_cross loops (above left.classes) (above c.args.row.now.classes) top wider that its quiet
    (λ all. both_ways c.within.result c.if-not-within.true (c.within.ensures.1 all))
    (λ all. both_ways c.within-then-not-within.result c.if-not-within-2.true (c.within-then-not-within.ensures.1 all))
