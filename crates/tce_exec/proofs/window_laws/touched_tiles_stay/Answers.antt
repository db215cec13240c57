use Rattle.tce_exec.proofs.Touches as touches
use Rattle.tce_exec.proofs.window_laws.touched_tiles_stay.Goals as goal

pub returns : goal.returns
returns c = touches.touched_tiles_stay
