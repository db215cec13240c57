use Rattle.std.proofs.Common.{refl}
use Rattle.tce_outside.specs.Files.{file}
use Rattle.tce_command.proofs.Outcomes.{one_refusal}
use Rattle.tce_plan.proofs.OneAnswer as answers
use Rattle.tce_plan.proofs.laws.plans_have_one_answer.Goals as goal

pub returns : goal.returns
returns c = record {
  granted = answers.granted;
  alone = λ files spec. one_refusal spec (file files spec);
  possible = λ files spec report a. (a.specification, a.specified files refl);
  one_memory = answers.one_memory;
}
