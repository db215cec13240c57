use Rattle.tce_cache.proofs.Touching.{latest_stay}
use Rattle.tce_cache.proofs.frame_laws.latest_tiles_stay.Goals as goal

pub returns : goal.returns
returns c = latest_stay
