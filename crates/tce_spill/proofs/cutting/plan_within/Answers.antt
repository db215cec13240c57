use Rattle.std.proofs.Common.{subst}
use Rattle.std.specs.Prelude.{IfOk, IfSome}
use Rattle.std.proofs.lemmas.Result.{IfOk-weaker}
use Rattle.tce_space.specs.IndexSet.{has}
use Rattle.tce_spec.specs.Specification.{Specification}
use Rattle.tce_spill.specs.Planned.{IsLeastButRows}
use Rattle.tce_spill.proofs.Renumbered.{piece_is_above}
use Rattle.tce_spill.proofs.cutting.plan_within.Goals as goal

pub returns-clause-plan : goal.returns-clause-plan
returns-clause-plan c =
    subst (λ (p : Specification). IfOk c.least_plan_within-found.result (λ found. IfSome found (IsLeastButRows p.declarations.space p.tree))) c.in_ok-piece.ensures c.least_plan_within-found.ensures.plan

pub returns-clause-none : goal.returns-clause-none
returns-clause-none c =
    IfOk-weaker c.least_plan_within-found.result _ _
    (λ found more. piece_is_above c.args.spec.now c.in_ok-piece.piece (has c.args.cuts) c.args.root c.args.limit found c.in_ok-piece.ensures more) c.least_plan_within-found.ensures.none
