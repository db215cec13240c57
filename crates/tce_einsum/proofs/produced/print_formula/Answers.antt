use Rattle.std.proofs.lemmas.Result.{IfOk-from_err}
use Rattle.tce_einsum.proofs.produced.print_formula.Goals as goal

pub returns-in_err-push_result : goal.returns-in_err-push_result
returns-in_err-push_result c = IfOk-from_err c.from_residual.result _ c.from_residual.ensures.0

pub returns-in_err-push_expression : goal.returns-in_err-push_expression
returns-in_err-push_expression c = IfOk-from_err c.from_residual-in_err-push_expression.result _ c.from_residual-in_err-push_expression.ensures.0
