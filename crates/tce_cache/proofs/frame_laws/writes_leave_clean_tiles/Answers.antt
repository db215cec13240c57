use Rattle.tce_cache.proofs.Current.{clean_stay}
use Rattle.tce_cache.proofs.frame_laws.writes_leave_clean_tiles.Goals as goal

pub returns : goal.returns
returns c = clean_stay
