use Rattle.tce_block.proofs.Regions.{places_within}
use Rattle.tce_block.proofs.stride_laws.places_are_within.Goals as goal

pub returns : goal.returns
returns c = places_within
