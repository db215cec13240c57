use Rattle.tce_block.proofs.Lasts as lasts
use Rattle.tce_block.proofs.stride_laws.results_end_at_last.Goals as goal

pub returns : goal.returns
returns c = lasts.results_end_at_last
