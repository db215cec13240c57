use Rattle.std.proofs.lemmas.Result.{IfOk-from_err}
use Rattle.tce_einsum.proofs.ranges.ranges_of.Goals as goal

pub returns-in_err-add_new : goal.returns-in_err-add_new
returns-in_err-add_new c = IfOk-from_err c.from_residual.result _ c.from_residual.ensures.0
