use Rattle.std.proofs.Common.{◌∙◌, arith}
use Rattle.tce_space.proofs.Products.{product_step, product_step_le}
use Rattle.tce_space.proofs.product.product_within.Goals as goal

pub returns-in_default : goal.returns-in_default
returns-in_default c small =
    let below = product_step_le c.args.numbers.now c.loop-number.number-index c.loop-number.all c.requires.positive c.loop-number-test.true c.loop-number.invariant.value in
    c.in_default.ensures (omega (arith, below, small, c.ranges.limit))

pub returns-then-next-limit : goal.returns-then-next-limit
returns-then-next-limit c small =
    let below = product_step_le c.args.numbers.now c.loop-number.number-index c.loop-number.all c.requires.positive c.loop-number-test.true c.loop-number.invariant.value in
    omega (arith, below, small, c.in-Some.ensures, c.if-next-limit.true)

pub loop-number-preserved : goal.loop-number-preserved
loop-number-preserved c = record {
  value = c.in-Some.ensures.1 ∙ product_step c.args.numbers.now c.loop-number.number-index c.loop-number.all c.loop-number-test.true c.loop-number.invariant.value;
  limit = omega (arith, c.if-next-limit.false);
}
