use Rattle.tce_block.proofs.Cover.{between_edges}
use Rattle.tce_block.proofs.laws.blocks_stay_between_edges.Goals as goal

pub returns : goal.returns
returns c = between_edges
