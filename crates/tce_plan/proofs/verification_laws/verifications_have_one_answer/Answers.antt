use Rattle.std.proofs.Common.{refl, Some}
use Rattle.tce_plan.proofs.Judged.{could_verify}
use Rattle.tce_plan.proofs.OneVerification as answers
use Rattle.tce_plan.proofs.verification_laws.verifications_have_one_answer.Goals as goal

pub returns : goal.returns
returns c = record { granted = answers.granted; alone = answers.alone; possible = λ files spec cert report. could_verify (Some files) files spec cert report refl; one_report = answers.one_report }
