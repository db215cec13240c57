use Rattle.tce_exec.proofs.TileTurns as turns
use Rattle.tce_exec.proofs.window_laws.turns_stay_in_one_tile.Goals as goal

pub returns : goal.returns
returns c = turns.turns_stay_in_one_tile
