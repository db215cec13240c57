use Rattle.std.proofs.lemmas.Result.{IfOk-from_err}
use Rattle.tce_einsum.proofs.formula.push_expression.Goals as goal

pub returns-in_err-push_task : goal.returns-in_err-push_task
returns-in_err-push_task c = IfOk-from_err c.from_residual.result _ c.from_residual.ensures.0
