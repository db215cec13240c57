use Rattle.tce_einsum.proofs.ValueLaws.{sums_move_out_of_right_operands}
use Rattle.tce_einsum.proofs.laws.sums_move_out_of_right_operands.Goals as goal

pub returns : goal.returns
returns c = sums_move_out_of_right_operands
