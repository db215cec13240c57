use Rattle.tce_exec.proofs.Reading.{operand_as_filed}
use Rattle.tce_exec.proofs.workspace_laws.operands_are_as_filed.Goals as goal

pub returns : goal.returns
returns c = operand_as_filed
