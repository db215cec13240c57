use Rattle.tce_exec.proofs.Edges as edges
use Rattle.tce_exec.proofs.window_laws.blocks_stay_in_tiles.Goals as goal

pub returns : goal.returns
returns c = edges.blocks_stay_in_tiles
