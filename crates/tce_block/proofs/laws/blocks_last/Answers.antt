use Rattle.tce_block.proofs.LastBlocks.{last_block}
use Rattle.tce_block.proofs.laws.blocks_last.Goals as goal

pub returns : goal.returns
returns c = last_block
