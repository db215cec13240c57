use Rattle.tce_job.proofs.Results.{result_holds, result_padded, result_told, result_before}
use Rattle.tce_job.proofs.result_laws.results_are_told.Goals as goal

pub returns : goal.returns
returns c = record { holds = result_holds; padded = result_padded; told = result_told; before = result_before }
