use Rattle.tce_tree.proofs.Operands as operands
use Rattle.tce_tree.proofs.laws.parents_have_operands.Goals as goal

pub returns : goal.returns
returns c = operands.parents_have_operands
