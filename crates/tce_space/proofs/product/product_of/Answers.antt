use Rattle.std.proofs.Common.{arith}
use Rattle.tce_space.proofs.Products.{product_step, product_step_le}
use Rattle.tce_space.proofs.product.product_of.Goals as goal

pub overflow_mul-all : goal.overflow_mul-all
overflow_mul-all c =
    omega (arith, product_step_le c.args.numbers.now c.loop-number.number-index c.loop-number.all c.requires.positive c.loop-number-test.true c.loop-number.invariant, c.requires.fits)

pub loop-number-preserved : goal.loop-number-preserved
loop-number-preserved c = product_step c.args.numbers.now c.loop-number.number-index c.loop-number.all c.loop-number-test.true c.loop-number.invariant
