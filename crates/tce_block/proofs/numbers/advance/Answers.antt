use Rattle.std.proofs.Common.{◌-◌, arith}
use Rattle.tce_space.proofs.Boxes.{length_inside}
use Rattle.tce_block.proofs.Carry.{carried_first, carry, grow, at_next, get-inside}
use Rattle.tce_block.proofs.numbers.advance.Goals as goal

pub loop-d-init : goal.loop-d-init
loop-d-init c = record { inside = c.requires; carried = carried_first _ _ c.requires }

pub loop-d-preserved : goal.loop-d-preserved
loop-d-preserved c = carry (c.loop-d.d - 1) _ _ _ (at_next _ _ _ c.loop-d.d c.loop-d-test.true c.loop-d.invariant) (omega arith) c.if-numbers-d.false

pub bounds-counts-d : goal.bounds-counts-d
bounds-counts-d c = omega (arith, length_inside c.args.counts.now c.loop-d.numbers c.loop-d.invariant.inside)

pub overflow_add-numbers : goal.overflow_add-numbers
overflow_add-numbers c =
    let below = get-inside c.args.counts.now c.loop-d.numbers (c.loop-d.d - 1) c.loop-d.invariant.inside (omega arith) in
    let fits = c.type_inv.counts (c.loop-d.d - 1) in
    omega arith

pub returns-then-numbers-d : goal.returns-then-numbers-d
returns-then-numbers-d c =
    let next = grow (c.loop-d.d - 1) c.args.counts.now c.args.numbers.now c.loop-d.numbers (at_next _ _ _ c.loop-d.d c.loop-d-test.true c.loop-d.invariant) c.if-numbers-d.true in
    record { inside = next.inside; next = λ e. next.next; last = λ e. cc }
