use Rattle.tce_block.proofs.Regions.{places_apart}
use Rattle.tce_block.proofs.stride_laws.places_are_apart.Goals as goal

pub returns : goal.returns
returns c = places_apart
