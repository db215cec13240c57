use Rattle.std.proofs.lemmas.Result.{IfOk-from_err}
use Rattle.tce_einsum.proofs.entries.Entries.contract.Goals as goal

pub returns-in_err-made-clause-contracted : goal.returns-in_err-made-clause-contracted
returns-in_err-made-clause-contracted c = IfOk-from_err c.from_residual.result _ c.from_residual.ensures.0

pub returns-in_err-made-clause-entries : goal.returns-in_err-made-clause-entries
returns-in_err-made-clause-entries c = IfOk-from_err c.from_residual.result _ c.from_residual.ensures.0

pub returns-in_err-made-clause-left : goal.returns-in_err-made-clause-left
returns-in_err-made-clause-left c = IfOk-from_err c.from_residual.result _ c.from_residual.ensures.0
