use Rattle.tce_job.proofs.Operands.{in_tree, is_operand}
use Rattle.tce_job.proofs.laws.operands_are_those_of_the_tree.Goals as goal

pub returns : goal.returns
returns c = record { in_tree = in_tree; operands = is_operand }
