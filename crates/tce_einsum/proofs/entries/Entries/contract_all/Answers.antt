use Rattle.std.proofs.lemmas.Result.{IfOk-from_err}
use Rattle.tce_einsum.proofs.entries.Entries.contract_all.Goals as goal

pub returns-in_err-contract-clause-contracted : goal.returns-in_err-contract-clause-contracted
returns-in_err-contract-clause-contracted c = IfOk-from_err c.from_residual.result _ c.from_residual.ensures.0

pub returns-in_err-contract-clause-entries : goal.returns-in_err-contract-clause-entries
returns-in_err-contract-clause-entries c = IfOk-from_err c.from_residual.result _ c.from_residual.ensures.0
