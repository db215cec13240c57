use Rattle.tce_cache.proofs.Kept.{load_kept}
use Rattle.tce_cache.proofs.frame_laws.loads_keep.Goals as goal

pub returns : goal.returns
returns c = load_kept
