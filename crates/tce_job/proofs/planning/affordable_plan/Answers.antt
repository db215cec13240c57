use Rattle.std.proofs.Common.{◌≤◌, subst}
use Rattle.tce_space.specs.Space.{IndexSpace}
use Rattle.tce_tree.specs.ContractionTree.{ContractionTree}
use Rattle.tce_search.specs.LeastPlan.{IsLeastPlan}
use Rattle.tce_job.proofs.Plans.{affordable}
use Rattle.tce_job.proofs.planning.affordable_plan.Goals as goal

pub returns-clause-affordable : goal.returns-clause-affordable
returns-clause-affordable c =
    let least : IsLeastPlan c.args.spec.now.declarations.space c.args.spec.now.tree c.in-Ok.plan =
    subst (λ (space : IndexSpace). IsLeastPlan space c.args.spec.now.tree c.in-Ok.plan) c.space.ensures.space
    (subst (λ (tree : ContractionTree). IsLeastPlan c.space.result.now tree c.in-Ok.plan) c.tree.ensures.tree c.in-Ok.ensures) in
    affordable c.args.spec.now c.args.budget c.in-Ok.plan least (subst (λ n. n ≤ c.args.budget) c.least_budget-least.ensures.words c.if-budget-least.false) c.if-plan.false
