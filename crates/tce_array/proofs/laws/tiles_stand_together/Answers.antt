use Rattle.tce_array.proofs.Tiles.{tile_together}
use Rattle.tce_array.proofs.laws.tiles_stand_together.Goals as goal

pub returns : goal.returns
returns c = tile_together
