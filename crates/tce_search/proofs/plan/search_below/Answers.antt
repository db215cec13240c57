use Rattle.std.proofs.Common.{◌≡◌, ◌<◌, false, sym, ◌∙◌, subst, le_trans, arith}
use Rattle.std.proofs.lemmas.Result.{err_from_is_err_and}
use Rattle.tce_search.specs.LeastPlan.{IsAnswer, IsPlainAnswer}
use Rattle.tce_search.proofs.plan.search_below.Goals as goal

pub raise-requires-clause-small : goal.raise-requires-clause-small
raise-requires-clause-small c = c.requires.small

pub raise-requires-clause-below : goal.raise-requires-clause-below
raise-requires-clause-below c = c.loop-least.invariant.most

pub search_round-requires-clause-measured : goal.search_round-requires-clause-measured
search_round-requires-clause-measured c = c.requires.measured

pub search_round-requires-clause-small : goal.search_round-requires-clause-small
search_round-requires-clause-small c = omega (arith, c.raise.ensures.most, c.requires.small)

pub shortened-requires-clause-measured : goal.shortened-requires-clause-measured
shortened-requires-clause-measured c = c.requires.measured

pub shortened-requires-clause-small : goal.shortened-requires-clause-small
shortened-requires-clause-small c = omega (arith, c.in_ok-plan.ensures.same, c.raise.ensures.most, c.requires.small)

pub shortened-requires-clause-least : goal.shortened-requires-clause-least
shortened-requires-clause-least c = (subst (IsAnswer c.args.space.now c.args.tree.now c.raise.new.self.ceiling) c.in-Least.is c.in_ok-plan.ensures.answer).0

pub shortened-requires-clause-below : goal.shortened-requires-clause-below
shortened-requires-clause-below c =
    subst (λ ceiling. c.in-Least.plan.memory < ceiling) (sym c.in_ok-plan.ensures.same)
    (subst (IsAnswer c.args.space.now c.args.tree.now c.raise.new.self.ceiling) c.in-Least.is c.in_ok-plan.ensures.answer).1

pub look_ahead-requires-clause-measured : goal.look_ahead-requires-clause-measured
look_ahead-requires-clause-measured c = c.requires.measured

pub look_ahead-requires-clause-small : goal.look_ahead-requires-clause-small
look_ahead-requires-clause-small c = c.requires.small

pub returns-in-Least-clause-plan : goal.returns-in-Least-clause-plan
returns-in-Least-clause-plan c = c.in_ok-shortened-in-Least.ensures.least

pub loop-least-preserved : goal.loop-least-preserved
loop-least-preserved c =
    record {
      below = subst (IsAnswer c.args.space.now c.args.tree.now c.raise.new.self.ceiling) c.in-AtLeast.is c.in_ok-plan.ensures.answer;
      most = omega (arith, c.in_ok-look_ahead.ensures.ceiling, c.in_ok-plan.ensures.same, c.raise.ensures.most);
      last = λ plain.
          let told : c.raise.new.self.learns ≡ false = sym c.in_ok-plan.ensures.learns ∙ (sym c.in_ok-look_ahead.ensures.learns ∙ plain) in
          omega (arith, c.raise.ensures.last told, subst (IsPlainAnswer c.raise.new.self.ceiling) c.in-AtLeast.is (c.in_ok-plan.ensures.plain told));
    }

pub returns-in_err-plan-clause-plan : goal.returns-in_err-plan-clause-plan
returns-in_err-plan-clause-plan c =
    let p = err_from_is_err_and c.from_residual.result c.from_residual.ensures.1 in
    rw p.1 tt

pub returns-in_err-plan-clause-below : goal.returns-in_err-plan-clause-below
returns-in_err-plan-clause-below c =
    let p = err_from_is_err_and c.from_residual.result c.from_residual.ensures.1 in
    rw p.1 tt

pub returns-in_err-plan-clause-none : goal.returns-in_err-plan-clause-none
returns-in_err-plan-clause-none c =
    let p = err_from_is_err_and c.from_residual.result c.from_residual.ensures.1 in
    rw p.1 tt

pub returns-in_err-shortened-in-Least-clause-plan : goal.returns-in_err-shortened-in-Least-clause-plan
returns-in_err-shortened-in-Least-clause-plan c =
    let p = err_from_is_err_and c.from_residual-in_err-shortened-in-Least.result c.from_residual-in_err-shortened-in-Least.ensures.1 in
    rw p.1 tt

pub returns-in_err-shortened-in-Least-clause-below : goal.returns-in_err-shortened-in-Least-clause-below
returns-in_err-shortened-in-Least-clause-below c =
    let p = err_from_is_err_and c.from_residual-in_err-shortened-in-Least.result c.from_residual-in_err-shortened-in-Least.ensures.1 in
    rw p.1 tt

pub returns-in_err-shortened-in-Least-clause-none : goal.returns-in_err-shortened-in-Least-clause-none
returns-in_err-shortened-in-Least-clause-none c =
    let p = err_from_is_err_and c.from_residual-in_err-shortened-in-Least.result c.from_residual-in_err-shortened-in-Least.ensures.1 in
    rw p.1 tt

pub returns-in_err-look_ahead-clause-plan : goal.returns-in_err-look_ahead-clause-plan
returns-in_err-look_ahead-clause-plan c =
    let p = err_from_is_err_and c.from_residual-in_err-look_ahead.result c.from_residual-in_err-look_ahead.ensures.1 in
    rw p.1 tt

pub returns-in_err-look_ahead-clause-below : goal.returns-in_err-look_ahead-clause-below
returns-in_err-look_ahead-clause-below c =
    let p = err_from_is_err_and c.from_residual-in_err-look_ahead.result c.from_residual-in_err-look_ahead.ensures.1 in
    rw p.1 tt

pub returns-in_err-look_ahead-clause-none : goal.returns-in_err-look_ahead-clause-none
returns-in_err-look_ahead-clause-none c =
    let p = err_from_is_err_and c.from_residual-in_err-look_ahead.result c.from_residual-in_err-look_ahead.ensures.1 in
    rw p.1 tt

pub returns-clause-none : goal.returns-clause-none
returns-clause-none c = λ fusion fits legal. le_trans c.loop-least-test.false (c.loop-least.invariant.below fusion fits legal)
