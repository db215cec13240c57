use Rattle.std.proofs.lemmas.Result.{IfErr-weaker}
use Rattle.tce_plan.proofs.Judged.{accepted_text, refused_text}
use Rattle.tce_plan.proofs.judging.judge.Goals as goal

pub returns-clause-accepted : goal.returns-clause-accepted
returns-clause-accepted c =
    accepted_text c.judge_plan-judged.result c.args.spec.now c.in_ok-plan.plan c.args.text.now c.in_ok-plan.ensures.read c.judge_plan-judged.ensures.accepted c.judge_plan-judged.ensures.least c.judge_plan-judged.ensures.memory

pub returns-clause-refused : goal.returns-clause-refused
returns-clause-refused c =
    IfErr-weaker c.judge_plan-judged.result _ _ (λ refusal found. refused_text c.args.spec.now c.in_ok-plan.plan c.args.text.now refusal c.in_ok-plan.ensures.read found) c.judge_plan-judged.ensures.refused
