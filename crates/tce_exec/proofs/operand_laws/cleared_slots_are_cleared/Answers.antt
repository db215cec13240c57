use Rattle.tce_exec.proofs.States as states
use Rattle.tce_exec.proofs.operand_laws.cleared_slots_are_cleared.Goals as goal

pub returns : goal.returns
returns c = states.cleared_slots_are_cleared
