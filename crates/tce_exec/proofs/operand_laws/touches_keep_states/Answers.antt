use Rattle.tce_exec.proofs.States as states
use Rattle.tce_exec.proofs.operand_laws.touches_keep_states.Goals as goal

pub returns : goal.returns
returns c = states.touches_keep_states
