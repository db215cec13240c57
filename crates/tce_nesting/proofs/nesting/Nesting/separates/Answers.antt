use Rattle.std.proofs.Common.{drop, ◌+◌}
use Rattle.std.proofs.Math.ListN.{drop_of_length-le}
use Rattle.tce_nesting.proofs.Classes.{drop-item, iff_trans, iff_sym, separates_stop, separates_further, separates_end, meets_from, apart_from}
use Rattle.tce_nesting.proofs.nesting.Nesting.separates.Goals as goal

pub returns-then-not-is_empty : goal.returns-then-not-is_empty
returns-then-not-is_empty c =
    let items = c.classes-class-items.result.now in
    let rest = drop (c.loop-class.class-index + 1) items in
    let here = drop-item items c.loop-class.class-index c.class-item.result c.loop-class-test.true c.class-item.is in
    rw (← c.classes-class-items.ensures.value)
    (iff_trans c.is_empty-then-not-is_empty.ensures.none
    (iff_trans (separates_stop c.loop-class.waiting c.args.lower c.class-item.result rest (meets_from c.args.lower c.class-item.result c.meet.result c.is_empty.result c.meet.ensures.members c.is_empty.ensures.none c.if-not-is_empty.true))
    (iff_sym (rw here at c.loop-class.invariant))))

pub loop-class-preserved : goal.loop-class-preserved
loop-class-preserved c =
    let items = c.classes-class-items.result.now in
    let rest = drop (c.loop-class.class-index + 1) items in
    let here = drop-item items c.loop-class.class-index c.class-item.result c.loop-class-test.true c.class-item.is in
    iff_trans (rw here at c.loop-class.invariant)
    (separates_further c.loop-class.waiting c.minus-waiting.result c.args.lower c.class-item.result rest c.minus-waiting.ensures.members
    (apart_from c.args.lower c.class-item.result c.meet.result c.is_empty.result c.meet.ensures.members c.is_empty.ensures.none c.if-not-is_empty.false))

pub returns-else-is_empty : goal.returns-else-is_empty
returns-else-is_empty c =
    let items = c.classes-class-items.result.now in
    let end = drop_of_length-le items c.loop-class-test.false in
    rw (← c.classes-class-items.ensures.value)
    (iff_trans (rw c.if-is_empty.false at (separates_end c.loop-class.waiting c.args.lower c.is_empty-2.result c.is_empty-else-is_empty.result c.is_empty-2.ensures.none c.is_empty-else-is_empty.ensures.none))
    (iff_sym (rw end at c.loop-class.invariant)))
