use Rattle.tce_plan.proofs.OneEinsum.{granted, alone}
use Rattle.tce_plan.proofs.text_laws.einsums_have_one_answer.Goals as goal

pub returns : goal.returns
returns c = record { granted = granted; alone = alone }
