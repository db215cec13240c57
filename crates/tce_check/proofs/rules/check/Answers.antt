use Rattle.std.proofs.Common.{◌≡◌, refl, ◌∙◌, subst, arith}
use Rattle.tce_tree.specs.Memory.{memory}
use Rattle.tce_fusion.proofs.Covers.{least_by_cover}
use Rattle.tce_fusion.specs.Cover.{Covers}
use Rattle.tce_check.specs.declared.verdict.Verdict.TheVariants.{Accepted, NotLegal, OrderWrong, SizeWrong, TotalWrong, NotCovered, BelowTotal}
use Rattle.tce_check.proofs.Verdicts.{one_verdict}
use Rattle.tce_check.proofs.rules.check.Goals as goal

pub returns-in-Some-clause-exact : goal.returns-in-Some-clause-exact
returns-in-Some-clause-exact c =
    one_verdict c.args.space.now c.args.tree.now c.args.plan.now (NotLegal c.in-Some.v)
    (record { inside = c.in-Some.ensures.inside; earlier = c.in-Some.ensures.least; fails = c.in-Some.ensures.found })

pub returns-in-Some-first_not_carried-clause-exact : goal.returns-in-Some-first_not_carried-clause-exact
returns-in-Some-first_not_carried-clause-exact c =
    one_verdict c.args.space.now c.args.tree.now c.args.plan.now (OrderWrong c.in-Some-first_not_carried.v) (
      c.in_default.ensures.legal.0 refl,
      record {
        inside = omega (arith, c.in-Some-first_not_carried.ensures.inside);
        earlier = c.in-Some-first_not_carried.ensures.least;
        fails = c.in-Some-first_not_carried.ensures.found;
      },
    )

pub returns-in-Some-first_wrong_size-clause-exact : goal.returns-in-Some-first_wrong_size-clause-exact
returns-in-Some-first_wrong_size-clause-exact c =
    one_verdict c.args.space.now c.args.tree.now c.args.plan.now (SizeWrong c.in-Some-first_wrong_size.v c.in-Some-first_wrong_size.size)
    ((c.in_default.ensures.legal.0 refl, c.in_default-first_not_carried.ensures.carried.0 refl), c.in-Some-first_wrong_size.ensures)

pub returns-then-plan-total-clause-exact : goal.returns-then-plan-total-clause-exact
returns-then-plan-total-clause-exact c =
    one_verdict c.args.space.now c.args.tree.now c.args.plan.now (TotalWrong c.memory-total.result) (
      ((c.in_default.ensures.legal.0 refl, c.in_default-first_not_carried.ensures.carried.0 refl), c.in_default-first_wrong_size.ensures),
      c.memory-total.ensures.value,
      c.if-plan-total.true,
    )

pub returns-in-Some-first_uncovered_node-clause-exact : goal.returns-in-Some-first_uncovered_node-clause-exact
returns-in-Some-first_uncovered_node-clause-exact c =
    let step = c.in-Some-first_uncovered_node.step in
    rw c.refused.ensures
    (one_verdict c.args.space.now c.args.tree.now c.args.plan.now (NotCovered c.in-Some-first_uncovered_node.v step.fused step.state.classes step.state.cost) (
      (
        ((c.in_default.ensures.legal.0 refl, c.in_default-first_not_carried.ensures.carried.0 refl), c.in_default-first_wrong_size.ensures),
        c.if-plan-total.false ∙ c.memory-total.ensures.value,
      ),
      c.in-Some-first_uncovered_node.ensures,
    ))

pub returns-in-Some-first_below-clause-exact : goal.returns-in-Some-first_below-clause-exact
returns-in-Some-first_below-clause-exact c =
    one_verdict c.args.space.now c.args.tree.now c.args.plan.now (BelowTotal c.in-Some-first_below.sum) (
      (
        (
          ((c.in_default.ensures.legal.0 refl, c.in_default-first_not_carried.ensures.carried.0 refl), c.in_default-first_wrong_size.ensures),
          c.if-plan-total.false ∙ c.memory-total.ensures.value,
        ),
        c.in_default-first_uncovered_node.ensures,
      ),
      c.in-Some-first_below.ensures,
    )

pub returns-in-None-clause-exact : goal.returns-in-None-clause-exact
returns-in-None-clause-exact c =
    one_verdict c.args.space.now c.args.tree.now c.args.plan.now Accepted (
      (
        (
          ((c.in_default.ensures.legal.0 refl, c.in_default-first_not_carried.ensures.carried.0 refl), c.in_default-first_wrong_size.ensures),
          c.if-plan-total.false ∙ c.memory-total.ensures.value,
        ),
        c.in_default-first_uncovered_node.ensures,
      ),
      c.in-None.ensures,
    )

pub returns-in-None-clause-least : goal.returns-in-None-clause-least
returns-in-None-clause-least c accepted =
    let plan = c.args.plan.now in
    let total : plan.memory ≡ memory c.args.space.now c.args.tree.now plan.fusion.0.items = c.if-plan-total.false ∙ c.memory-total.ensures.value in
    least_by_cover c.args.space.now c.args.tree.now plan.fusion.0.items plan.tables c.requires.fits.fusion (c.in_default.ensures.legal.0 refl)
    (subst (Covers c.args.space.now c.args.tree.now plan.tables) total (record { nodes = c.in_default-first_uncovered_node.ensures; root = c.in-None.ensures }))
