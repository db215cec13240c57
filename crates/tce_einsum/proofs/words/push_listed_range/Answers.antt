use Rattle.std.proofs.lemmas.Result.{IfOk-from_err}
use Rattle.tce_einsum.proofs.words.push_listed_range.Goals as goal

pub returns-in_err-push_range_name : goal.returns-in_err-push_range_name
returns-in_err-push_range_name c = IfOk-from_err c.from_residual.result _ c.from_residual.ensures.0
