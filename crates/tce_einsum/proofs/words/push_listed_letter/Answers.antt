use Rattle.std.proofs.lemmas.Result.{IfOk-from_err}
use Rattle.tce_einsum.proofs.words.push_listed_letter.Goals as goal

pub returns-in_err-push_letter : goal.returns-in_err-push_letter
returns-in_err-push_letter c = IfOk-from_err c.from_residual.result _ c.from_residual.ensures.0
