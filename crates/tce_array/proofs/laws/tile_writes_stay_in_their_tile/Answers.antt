use Rattle.tce_array.proofs.Writes.{tile_written}
use Rattle.tce_array.proofs.laws.tile_writes_stay_in_their_tile.Goals as goal

pub returns : goal.returns
returns c = tile_written
