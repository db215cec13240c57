use Rattle.std.proofs.lemmas.Result.{IfOk-from_err}
use Rattle.tce_einsum.proofs.produced.push_result.Goals as goal

pub returns-in_err-push_word : goal.returns-in_err-push_word
returns-in_err-push_word c = IfOk-from_err c.from_residual.result _ c.from_residual.ensures.0

pub returns-in_err-push_bracketed_letters : goal.returns-in_err-push_bracketed_letters
returns-in_err-push_bracketed_letters c = IfOk-from_err c.from_residual-in_err-push_bracketed_letters.result _ c.from_residual-in_err-push_bracketed_letters.ensures.0
