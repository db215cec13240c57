use Rattle.tce_outside.specs.Files.{file}
use Rattle.tce_command.proofs.Outcomes.{one_refusal}
use Rattle.tce_plan.proofs.OneCertificate.{granted}
use Rattle.tce_plan.proofs.text_laws.certificates_have_one_answer.Goals as goal

pub returns : goal.returns
returns c = record { granted = λ files spec a. granted files spec a; alone = λ files spec. one_refusal spec (file files spec) }
