use Rattle.std.proofs.lemmas.Result.{IfOk-from_err}
use Rattle.tce_einsum.proofs.lines.push_edge.Goals as goal

pub returns-in_err-push_word : goal.returns-in_err-push_word
returns-in_err-push_word c = IfOk-from_err c.from_residual.result _ c.from_residual.ensures.0
