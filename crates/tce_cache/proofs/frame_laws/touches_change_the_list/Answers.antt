use Rattle.tce_cache.proofs.Touching.{touches_change}
use Rattle.tce_cache.proofs.frame_laws.touches_change_the_list.Goals as goal

pub returns : goal.returns
returns c = touches_change
