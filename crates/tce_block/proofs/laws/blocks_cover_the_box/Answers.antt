use Rattle.tce_block.proofs.Cover.{covers}
use Rattle.tce_block.proofs.laws.blocks_cover_the_box.Goals as goal

pub returns : goal.returns
returns c = covers
