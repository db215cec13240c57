use Rattle.tce_job.proofs.ResultMade.{made_zero}
use Rattle.tce_job.proofs.laws.made_results_are_zero.Goals as goal

pub returns : goal.returns
returns c = made_zero
