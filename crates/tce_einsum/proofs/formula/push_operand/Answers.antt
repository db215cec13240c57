use Rattle.std.proofs.lemmas.Result.{IfOk-from_err}
use Rattle.tce_einsum.proofs.formula.push_operand.Goals as goal

pub returns-in_err-letters : goal.returns-in_err-letters
returns-in_err-letters c = IfOk-from_err c.from_residual.result _ c.from_residual.ensures.0
