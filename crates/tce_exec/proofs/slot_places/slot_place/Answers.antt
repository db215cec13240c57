use Rattle.std.proofs.Common.{◌+◌, ◌*◌, ◌∙◌, slice_index, ap, sym, arith}
use Rattle.tce_exec.proofs.Slots.{word_next, word_within, word_ends}
use Rattle.tce_exec.proofs.slot_places.slot_place.Goals as goal

pub overflow_mul-place : goal.overflow_mul-place
overflow_mul-place c =
    omega (arith, c.requires, word_within c.args.slot.now c.args.numbers.now c.loop-i.i c.loop-i-test.true, word_next c.args.slot.now c.args.numbers.now c.loop-i.i)

pub overflow_add-place : goal.overflow_add-place
overflow_add-place c =
    omega (arith, c.requires, c.loop-i.invariant, word_within c.args.slot.now c.args.numbers.now c.loop-i.i c.loop-i-test.true, word_next c.args.slot.now c.args.numbers.now c.loop-i.i)

pub loop-i-preserved : goal.loop-i-preserved
loop-i-preserved c =
    ap (λ n. n + slice_index c.args.slot.now.steps c.loop-i.i * slice_index c.args.numbers.now c.loop-i.i) c.loop-i.invariant ∙ sym (word_next c.args.slot.now c.args.numbers.now c.loop-i.i)

pub returns : goal.returns
returns c = c.loop-i.invariant ∙ word_ends c.args.slot.now c.args.numbers.now c.loop-i.i (omega arith)
