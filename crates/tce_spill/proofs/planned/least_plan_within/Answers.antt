use Rattle.std.proofs.Common.{◌≤◌, subst, arith}
use Rattle.std.specs.Prelude.{Option, IfSome, IfNone}
use Rattle.tce_space.specs.Space.{IndexSpace}
use Rattle.tce_tree.specs.ContractionTree.{ContractionTree}
use Rattle.tce_nesting.specs.declared.plan.Plan.{Plan}
use Rattle.tce_search.specs.LeastPlan.{IsLeastPlan, IsExceeded}
use Rattle.tce_spill.proofs.PiecePlans.{bare_plan}
use Rattle.tce_spill.proofs.planned.least_plan_within.Goals as goal

pub returns-in_ok-without_rows-in-Some-clause-plan : goal.returns-in_ok-without_rows-in-Some-clause-plan
returns-in_ok-without_rows-in-Some-clause-plan c =
    let space = c.space.result.now in
    let tree = c.tree.result.now in
    let least = subst (λ (o : Option Plan). IfSome o (IsLeastPlan space tree)) c.in-Some.is c.in_ok-plan.ensures.plan in
    bare_plan c.args.spec.now space tree c.in-Some.plan c.in_ok-without_rows-in-Some.field-0 c.space.ensures.space c.tree.ensures.tree least c.in_ok-without_rows-in-Some.ensures

pub returns-in_ok-without_rows-in-Some-clause-within : goal.returns-in_ok-without_rows-in-Some-clause-within
returns-in_ok-without_rows-in-Some-clause-within c =
    let within = subst (λ (o : Option Plan). IfSome o (λ plan. plan.memory ≤ c.args.limit)) c.in-Some.is c.in_ok-plan.ensures.within in
    omega (arith, within, c.in_ok-without_rows-in-Some.ensures.memory)

pub returns-in-None-clause-none : goal.returns-in-None-clause-none
returns-in-None-clause-none c =
    let space = c.space.result.now in
    let tree = c.tree.result.now in
    let more = subst (λ (o : Option Plan). IfNone o (IsExceeded space tree c.args.limit)) c.in-None.is c.in_ok-plan.ensures.none in
    subst (λ (k : IndexSpace). IsExceeded k c.args.spec.now.tree c.args.limit) c.space.ensures.space
    (subst (λ (t : ContractionTree). IsExceeded space t c.args.limit) c.tree.ensures.tree more)
