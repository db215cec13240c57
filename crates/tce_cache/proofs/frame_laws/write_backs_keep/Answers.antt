use Rattle.tce_cache.proofs.Kept.{write_kept}
use Rattle.tce_cache.proofs.frame_laws.write_backs_keep.Goals as goal

pub returns : goal.returns
returns c = write_kept
