use Rattle.std.proofs.lemmas.Result.{IfOk-from_err}
use Rattle.tce_einsum.proofs.formula.print_tasks.Goals as goal

pub returns-in_err-print_task : goal.returns-in_err-print_task
returns-in_err-print_task c = IfOk-from_err c.from_residual.result _ c.from_residual.ensures.0
