use Rattle.tce_job.proofs.Reading.{hold, made, read}
use Rattle.tce_job.proofs.laws.opened_arrays_are_read.Goals as goal

pub returns : goal.returns
returns c = record { hold = hold; made = made; read = read }
