use Rattle.tce_block.proofs.Growths as growths
use Rattle.tce_block.proofs.stride_laws.growths_add_up.Goals as goal

pub returns : goal.returns
returns c = growths.growths_add_up
