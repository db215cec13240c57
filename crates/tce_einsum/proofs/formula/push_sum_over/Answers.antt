use Rattle.std.proofs.lemmas.Result.{IfOk-from_err}
use Rattle.tce_einsum.proofs.formula.push_sum_over.Goals as goal

pub returns-in_err-push_word : goal.returns-in_err-push_word
returns-in_err-push_word c = IfOk-from_err c.from_residual.result _ c.from_residual.ensures.0

pub returns-in_err-push_symbol : goal.returns-in_err-push_symbol
returns-in_err-push_symbol c = IfOk-from_err c.from_residual-in_err-push_symbol.result _ c.from_residual-in_err-push_symbol.ensures.0

pub returns-in_err-push_letters : goal.returns-in_err-push_letters
returns-in_err-push_letters c = IfOk-from_err c.from_residual-in_err-push_letters.result _ c.from_residual-in_err-push_letters.ensures.0

pub returns-in_err-push_symbol-2 : goal.returns-in_err-push_symbol-2
returns-in_err-push_symbol-2 c = IfOk-from_err c.from_residual-in_err-push_symbol-2.result _ c.from_residual-in_err-push_symbol-2.ensures.0
