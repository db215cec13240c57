use Rattle.std.proofs.Common.{drop, ◌+◌}
use Rattle.std.proofs.lemmas.Bool.{both_ways}
use Rattle.tce_nesting.proofs.Classes.{drop-item, iff_trans, iff_sym, allows_stop, allows_further}
use Rattle.tce_nesting.proofs.nesting.Nesting.allowed.Goals as goal

pub returns-then-not-within : goal.returns-then-not-within
returns-then-not-within c =
    let items = c.classes-class-items.result.now in
    let rest = drop (c.loop-class.class-index + 1) items in
    let here = drop-item items c.loop-class.class-index c.class-item.result c.loop-class-test.true c.class-item.is in
    rw (← c.classes-class-items.ensures.value)
    (iff_trans c.within-then-not-within.ensures
    (iff_trans (allows_stop c.args.fused c.loop-class.reached c.union-reached.result c.class-item.result rest c.union-reached.ensures.members (λ h. both_ways c.within.result c.if-not-within.true (c.within.ensures.1 h)))
    (iff_sym (rw here at c.loop-class.invariant))))

pub loop-class-preserved : goal.loop-class-preserved
loop-class-preserved c =
    let items = c.classes-class-items.result.now in
    let rest = drop (c.loop-class.class-index + 1) items in
    let here = drop-item items c.loop-class.class-index c.class-item.result c.loop-class-test.true c.class-item.is in
    iff_trans (rw here at c.loop-class.invariant)
    (allows_further c.args.fused c.loop-class.reached c.union-reached.result c.class-item.result rest c.union-reached.ensures.members (c.within.ensures.0 c.if-not-within.false))
