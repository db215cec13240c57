use Rattle.tce_block.proofs.Fitting.{fit_the_box}
use Rattle.tce_block.proofs.laws.blocks_fit_the_box.Goals as goal

pub returns : goal.returns
returns c = fit_the_box
