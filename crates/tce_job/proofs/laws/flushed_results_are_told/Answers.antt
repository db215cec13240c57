use Rattle.tce_job.proofs.Flushed.{flushed, whole}
use Rattle.tce_job.proofs.laws.flushed_results_are_told.Goals as goal

pub returns : goal.returns
returns c = record { told = flushed; whole = whole }
