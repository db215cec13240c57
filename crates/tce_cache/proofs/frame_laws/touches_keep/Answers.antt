use Rattle.tce_cache.proofs.Kept.{touch_kept}
use Rattle.tce_cache.proofs.frame_laws.touches_keep.Goals as goal

pub returns : goal.returns
returns c = touch_kept
