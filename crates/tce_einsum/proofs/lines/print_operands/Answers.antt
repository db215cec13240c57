use Rattle.std.proofs.lemmas.Result.{IfOk-from_err}
use Rattle.tce_einsum.proofs.lines.print_operands.Goals as goal

pub returns-in_err-print_operand : goal.returns-in_err-print_operand
returns-in_err-print_operand c = IfOk-from_err c.from_residual.result _ c.from_residual.ensures.0
