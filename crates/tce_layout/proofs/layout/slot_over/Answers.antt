use Rattle.std.proofs.Common.{◌≡◌, ◌-◌, sym, ap, ◌∙◌, refl, arith}
use Rattle.tce_space.specs.Space.{extent_at}
use Rattle.tce_space.proofs.Spaces.{index_limits}
use Rattle.tce_layout.proofs.Steps.{size_from, size-all, size_within, size_turn, size_kept, steps_turn, steps_kept}
use Rattle.tce_layout.proofs.layout.slot_over.Goals as goal

pub overflow_mul-size : goal.overflow_mul-size
overflow_mul-size c =
    let turned = size_turn (extent_at c.args.space.now) c.args.dims c.loop-i.i c.loop-i.size c.extent-size.result
    c.loop-i-test.true c.loop-i.auto.i (sym c.has.ensures ∙ c.if-has.true) c.extent-size.ensures.extent c.loop-i.invariant.size in
    let within = size_within (extent_at c.args.space.now) c.args.dims (c.loop-i.i - 1)
    (λ i h. (index_limits c.args.space.now i c.index_count-count.ensures.limits (c.requires.declared i h)).some) (omega (arith, c.loop-i.auto.i)) in
    omega (arith, turned, within, c.requires.limit)

pub loop-i-preserved-then-has : goal.loop-i-preserved-then-has
loop-i-preserved-then-has c = record {
  size = size_turn (extent_at c.args.space.now) c.args.dims c.loop-i.i c.loop-i.size c.extent-size.result
      c.loop-i-test.true c.loop-i.auto.i (sym c.has.ensures ∙ c.if-has.true) c.extent-size.ensures.extent c.loop-i.invariant.size;
  steps = steps_turn c.args.space.now c.args.dims c.loop-i.i c.loop-i.size c.loop-i.steps
      c.loop-i-test.true c.loop-i.auto.i (sym c.has.ensures ∙ c.if-has.true) c.loop-i.invariant.size c.loop-i.invariant.steps;
}

pub loop-i-preserved : goal.loop-i-preserved
loop-i-preserved c = record {
  size = size_kept (extent_at c.args.space.now) c.args.dims c.loop-i.i c.loop-i.size
      c.loop-i-test.true c.loop-i.auto.i (sym c.has.ensures ∙ c.if-has.false) c.loop-i.invariant.size;
  steps = steps_kept c.args.space.now c.args.dims c.loop-i.i c.loop-i.steps c.loop-i-test.true (sym c.has.ensures ∙ c.if-has.false) c.loop-i.invariant.steps;
}

pub returns : goal.returns
returns c =
    let first : c.loop-i.i ≡ 0 = omega arith in record {
      begins = refl;
      sized = c.loop-i.invariant.size ∙ ap (size_from (extent_at c.args.space.now) c.args.dims) first ∙ size-all (extent_at c.args.space.now) c.args.dims;
      steps = λ i l. c.loop-i.invariant.steps.done i (omega arith) l;
      indexes = c.loop-i.invariant.steps.indexes;
    }
