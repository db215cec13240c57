use Rattle.std.proofs.lemmas.Result.{IfOk-from_err}
use Rattle.tce_einsum.proofs.lines.print_result.Goals as goal

pub returns-in_err-ranges : goal.returns-in_err-ranges
returns-in_err-ranges c = IfOk-from_err c.from_residual.result _ c.from_residual.ensures.0

pub returns-in_err-push_word : goal.returns-in_err-push_word
returns-in_err-push_word c = IfOk-from_err c.from_residual-in_err-push_word.result _ c.from_residual-in_err-push_word.ensures.0

pub returns-in_err-push_word-2 : goal.returns-in_err-push_word-2
returns-in_err-push_word-2 c = IfOk-from_err c.from_residual-in_err-push_word-2.result _ c.from_residual-in_err-push_word-2.ensures.0

pub returns-in_err-push_symbol : goal.returns-in_err-push_symbol
returns-in_err-push_symbol c = IfOk-from_err c.from_residual-in_err-push_symbol.result _ c.from_residual-in_err-push_symbol.ensures.0

pub returns-in_err-push_range_names : goal.returns-in_err-push_range_names
returns-in_err-push_range_names c = IfOk-from_err c.from_residual-in_err-push_range_names.result _ c.from_residual-in_err-push_range_names.ensures.0

pub returns-in_err-push_symbol-2 : goal.returns-in_err-push_symbol-2
returns-in_err-push_symbol-2 c = IfOk-from_err c.from_residual-in_err-push_symbol-2.result _ c.from_residual-in_err-push_symbol-2.ensures.0
