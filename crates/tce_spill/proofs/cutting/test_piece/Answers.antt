use Rattle.std.proofs.Common.{sym, ◌∙◌, arith}
use Rattle.tce_space.specs.IndexSet.{has}
use Rattle.tce_spill.proofs.Turns.{fit_more, is_too_large}
use Rattle.tce_spill.proofs.PiecePlans.{plan_memory}
use Rattle.tce_spill.proofs.cutting.test_piece.Goals as goal

pub returns-then-plan-limit-clause-refused : goal.returns-then-plan-limit-clause-refused
returns-then-plan-limit-clause-refused c =
    let s = c.args.spec.now in (
      omega arith,
      is_too_large s.declarations.space s.tree (has c.args.cuts) c.args.limit c.args.root c.in-Ok.plan.memory c.requires.all c.requires.inside
          (sym c.is_root.ensures ∙ c.if-not-is_root.false) (plan_memory s (has c.args.cuts) c.args.root c.in-Ok.plan c.in-Ok.ensures) c.if-plan-limit.true c.requires.earlier,
    )

pub returns-clause-fit : goal.returns-clause-fit
returns-clause-fit c =
    let s = c.args.spec.now in
    fit_more s.declarations.space s.tree (has c.args.cuts) c.args.limit c.args.root c.in-Ok.plan.memory c.requires.earlier
    (plan_memory s (has c.args.cuts) c.args.root c.in-Ok.plan c.in-Ok.ensures) c.if-plan-limit.false
