use Rattle.std.proofs.Common.{sym, ap}
use Rattle.tce_base.specs.Word.{wrapping_add, wrapping_sub, wrapping_mul}
use Rattle.tce_block.specs.Turns.{operate}
use Rattle.tce_block.proofs.runs.result_of.Goals as goal

pub returns-in-Multiply : goal.returns-in-Multiply
unfolding wrapping_mul
returns-in-Multiply c = ap (λ o. operate o c.args.left c.args.right) (sym c.in-Multiply.is)

pub returns-in-Add : goal.returns-in-Add
unfolding wrapping_add
returns-in-Add c = ap (λ o. operate o c.args.left c.args.right) (sym c.in-Add.is)

pub returns-in-Subtract : goal.returns-in-Subtract
unfolding wrapping_sub
returns-in-Subtract c = ap (λ o. operate o c.args.left c.args.right) (sym c.in-Subtract.is)
