use Rattle.std.proofs.lemmas.Result.{IfOk-weaker}
use Rattle.tce_spill.proofs.PiecePlans.{bare_plan}
use Rattle.tce_spill.proofs.planned.least_plan.Goals as goal

pub returns : goal.returns
returns c =
    IfOk-weaker c.without_rows.result _ _
    (λ plan bare. bare_plan c.args.spec.now c.space.result.now c.tree.result.now c.in_ok-plan.plan plan c.space.ensures.space c.tree.ensures.tree c.in_ok-plan.ensures bare) c.without_rows.ensures
