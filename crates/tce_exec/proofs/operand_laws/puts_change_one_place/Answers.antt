use Rattle.tce_exec.proofs.States as states
use Rattle.tce_exec.proofs.operand_laws.puts_change_one_place.Goals as goal

pub returns : goal.returns
returns c = states.puts_change_one_place
