use Rattle.tce_exec.proofs.States as states
use Rattle.tce_exec.proofs.operand_laws.tile_puts_change_one_place.Goals as goal

pub returns : goal.returns
returns c = states.tile_puts_change_one_place
