use Rattle.tce_cache.proofs.Kept.{drop_kept, last_free}
use Rattle.tce_cache.proofs.frame_laws.drops_keep.Goals as goal

pub returns : goal.returns
returns c l stored held z words apart clean unmarked = (drop_kept l stored held z words apart clean unmarked, last_free l.frames held z apart)
