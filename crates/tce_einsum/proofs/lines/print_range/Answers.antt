use Rattle.std.proofs.lemmas.Result.{IfOk-from_err}
use Rattle.tce_einsum.proofs.lines.print_range.Goals as goal

pub returns-in_err-push_word : goal.returns-in_err-push_word
returns-in_err-push_word c = IfOk-from_err c.from_residual.result _ c.from_residual.ensures.0

pub returns-in_err-push_range_name : goal.returns-in_err-push_range_name
returns-in_err-push_range_name c = IfOk-from_err c.from_residual-in_err-push_range_name.result _ c.from_residual-in_err-push_range_name.ensures.0

pub returns-in_err-push : goal.returns-in_err-push
returns-in_err-push c = IfOk-from_err c.from_residual-in_err-push.result _ c.from_residual-in_err-push.ensures.0

pub returns-in_err-push_edge : goal.returns-in_err-push_edge
returns-in_err-push_edge c = IfOk-from_err c.from_residual-in_err-push_edge.result _ c.from_residual-in_err-push_edge.ensures.0
