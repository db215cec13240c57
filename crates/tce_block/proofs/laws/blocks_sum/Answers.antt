use Rattle.tce_block.proofs.BoxSums.{blocks_total}
use Rattle.tce_block.proofs.laws.blocks_sum.Goals as goal

pub returns : goal.returns
returns c = blocks_total
