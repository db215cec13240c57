use Rattle.tce_run.proofs.Reasons.{granted, alone, possible}
use Rattle.tce_run.proofs.laws.runs_have_one_answer.Goals as goal

pub returns : goal.returns
returns c = record { granted = granted; alone = alone; possible = possible }
