use Rattle.std.proofs.lemmas.Result.{IfOk-from_err}
use Rattle.tce_einsum.proofs.formula.print_grouped.Goals as goal

pub returns-in_err-push_symbol : goal.returns-in_err-push_symbol
returns-in_err-push_symbol c = IfOk-from_err c.from_residual.result _ c.from_residual.ensures.0
