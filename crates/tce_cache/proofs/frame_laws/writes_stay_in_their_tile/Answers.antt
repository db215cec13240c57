use Rattle.tce_cache.proofs.Current.{others_stay}
use Rattle.tce_cache.proofs.frame_laws.writes_stay_in_their_tile.Goals as goal

pub returns : goal.returns
returns c = others_stay
