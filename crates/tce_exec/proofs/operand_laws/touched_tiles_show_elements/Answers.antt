use Rattle.tce_exec.proofs.States as states
use Rattle.tce_exec.proofs.operand_laws.touched_tiles_show_elements.Goals as goal

pub returns : goal.returns
returns c = states.touched_tiles_show_elements
