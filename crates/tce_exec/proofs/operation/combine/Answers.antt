use Rattle.std.proofs.Common.{ap, sym}
use Rattle.tce_base.specs.Word.{wrapping_mul, wrapping_add, wrapping_sub}
use Rattle.tce_exec.specs.Operands.{combined}
use Rattle.tce_exec.proofs.operation.combine.Goals as goal

pub returns-in-Product : goal.returns-in-Product
unfolding wrapping_mul
returns-in-Product c = ap (λ k. combined k c.args.first c.args.second) (sym c.in-Product.is)

pub returns-in-Sum : goal.returns-in-Sum
unfolding wrapping_add
returns-in-Sum c = ap (λ k. combined k c.args.first c.args.second) (sym c.in-Sum.is)

pub returns-in-Add : goal.returns-in-Add
unfolding wrapping_add
returns-in-Add c = ap (λ k. combined k c.args.first c.args.second) (sym c.in-Add.is)

pub returns-in-Sub : goal.returns-in-Sub
unfolding wrapping_sub
returns-in-Sub c = ap (λ k. combined k c.args.first c.args.second) (sym c.in-Sub.is)
