use Rattle.std.proofs.lemmas.Result.{IfOk-from_err}
use Rattle.tce_einsum.proofs.formula.print_sum.Goals as goal

pub returns-in_err-push_summed : goal.returns-in_err-push_summed
returns-in_err-push_summed c = IfOk-from_err c.from_residual.result _ c.from_residual.ensures.0
