use Rattle.std.proofs.Common.{sym, subst}
use Rattle.std.proofs.lemmas.Result.{IfOk-from_err}
use Rattle.tce_tree.specs.ContractionTree.{ContractionTree}
use Rattle.tce_tree.specs.Fusion.{Carries, FusionFits, OrdersFit}
use Rattle.tce_tree.specs.Orders.{lists_of}
use Rattle.tce_code.specs.CodeFor.{IsCodeFor}
use Rattle.tce_code.specs.Plan.{plan_of}
use Rattle.tce_job.proofs.preparing.code_and_report.Goals as goal

pub generate-requires-clause-carried : goal.generate-requires-clause-carried
generate-requires-clause-carried c =
    subst (λ (tree : ContractionTree). Carries tree c.args.plan.now.fusion.0.items (lists_of c.args.orders.now.0.items)) (sym c.tree.ensures.tree) c.requires.carried

pub generate-requires-clause-fusion_fits : goal.generate-requires-clause-fusion_fits
generate-requires-clause-fusion_fits c =
    subst (λ (tree : ContractionTree). FusionFits tree c.args.plan.now.fusion.0.items) (sym c.tree.ensures.tree) c.requires.plan.fits.fusion

pub generate-requires-clause-orders_fit : goal.generate-requires-clause-orders_fit
generate-requires-clause-orders_fit c =
    subst (λ (tree : ContractionTree). OrdersFit tree (lists_of c.args.orders.now.0.items)) (sym c.tree.ensures.tree) c.requires.fit

pub returns-in_err-code-clause-code : goal.returns-in_err-code-clause-code
returns-in_err-code-clause-code c = IfOk-from_err c.from_residual.result _ c.from_residual.ensures.0

pub returns-in_err-code-clause-report : goal.returns-in_err-code-clause-report
returns-in_err-code-clause-report c = IfOk-from_err c.from_residual.result _ c.from_residual.ensures.0

pub report_of-requires-clause-enough : goal.report_of-requires-clause-enough
report_of-requires-clause-enough c = c.requires.enough

pub report_of-requires-clause-plan : goal.report_of-requires-clause-plan
report_of-requires-clause-plan c = c.requires.plan

pub returns-in-Ok-clause-code : goal.returns-in-Ok-clause-code
returns-in-Ok-clause-code c =
    subst (λ (tree : ContractionTree). IsCodeFor tree (plan_of c.args.plan.now.fusion.0.items (lists_of c.args.orders.now.0.items)) c.in_ok-code.code) c.tree.ensures.tree c.in_ok-code.ensures

pub returns-in-Ok-clause-report : goal.returns-in-Ok-clause-report
returns-in-Ok-clause-report c = c.in-Ok.ensures
