use Rattle.std.proofs.Common.{◌+◌, [], ◌∷◌, length, ap, sym, subst, arith}
use Rattle.std.proofs.lemmas.List.{length-append}
use Rattle.std.proofs.lemmas.Result.{err_from_is_err_and}
use Rattle.tce_tree.specs.ContractionTree.{operations}
use Rattle.tce_space.specs.IndexSet.{has}
use Rattle.tce_spill.specs.Planned.{HavePlansBelow}
use Rattle.tce_spill.proofs.PiecePlans.{plans_more}
use Rattle.tce_spill.proofs.cutting.plan_pieces.Goals as goal

pub loop-root-preserved : goal.loop-root-preserved
loop-root-preserved c = record {
  fit = c.in_ok-plan.ensures.fit;
  count = omega (arith, ap length c.in-Ok.ensures.items, length-append c.loop-root.plans.items (c.in_ok-plan.plan ∷ []), c.loop-root.invariant.count);
  plans =
      subst (λ xs. HavePlansBelow c.args.spec.now (has c.args.cuts) xs (c.loop-root.root + 1)) (sym c.in-Ok.ensures.items)
      (plans_more c.args.spec.now (has c.args.cuts) c.loop-root.plans.items c.loop-root.root c.in_ok-plan.plan c.loop-root.invariant.count c.loop-root.invariant.plans c.in_ok-plan.ensures.plan);
}

pub loop-root-init : goal.loop-root-init
loop-root-init c = record {
  fit = λ r low. absurd (omega (arith, low));
  count = ap length c.new-plans.ensures.items;
  plans = λ v low. absurd (omega (arith, low));
}

pub test_piece-requires-clause-names : goal.test_piece-requires-clause-names
test_piece-requires-clause-names c = c.requires.names

pub test_piece-requires-clause-few : goal.test_piece-requires-clause-few
test_piece-requires-clause-few c = c.requires.few

pub test_piece-requires-clause-all : goal.test_piece-requires-clause-all
test_piece-requires-clause-all c = c.requires.all

pub test_piece-requires-clause-earlier : goal.test_piece-requires-clause-earlier
test_piece-requires-clause-earlier c = c.loop-root.invariant.fit

pub returns-in_err-plan : goal.returns-in_err-plan
returns-in_err-plan c =
    let p = err_from_is_err_and c.from_residual.result c.from_residual.ensures.1 in
    rw (p.1, p.2) (record {
      meet = tt;
      count = tt;
      plans = tt;
      refused = c.in_err-plan.ensures.refused;
    })

pub returns-in_default : goal.returns-in_default
returns-in_default c = record {
  meet = tt;
  count = tt;
  plans = tt;
  refused = tt;
}

pub returns : goal.returns
returns c =
    let nodes = ap operations c.tree.ensures.tree in
    record {
      meet = λ r low. c.loop-root.invariant.fit r (omega (arith, nodes, low));
      count = omega (arith, nodes, c.loop-root.invariant.count);
      plans = λ v low. c.loop-root.invariant.plans v (omega (arith, nodes, low));
      refused = tt;
    }
