use Rattle.std.proofs.Common.{subst}
use Rattle.std.specs.Prelude.{IfOk}
use Rattle.tce_spec.specs.Specification.{Specification}
use Rattle.tce_spill.specs.Planned.{IsLeastButRows}
use Rattle.tce_spill.proofs.cutting.plan_of_piece.Goals as goal

pub returns : goal.returns
returns c = subst (λ (p : Specification). IfOk c.least_plan-plan.result (IsLeastButRows p.declarations.space p.tree)) c.in_ok-piece.ensures c.least_plan-plan.ensures
