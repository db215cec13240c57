use Rattle.tce_cache.proofs.Found.{found_frame}
use Rattle.tests_base.proofs.frames.use_tile.Goals as goal

pub touch-requires : goal.touch-requires
touch-requires c = found_frame c.args.table.now.held c.args.array c.args.tile c.in-Some.frame c.in-Some.ensures
