use Rattle.std.proofs.Common.{◌≤◌, length, sym, ap, subst, ◌∙◌}
use Rattle.std.specs.Prelude.{Option, IfSome, IfNone}
use Rattle.tce_space.specs.IndexSet.{has}
use Rattle.tce_nesting.specs.declared.plan.Plan.{Plan}
use Rattle.tce_spill.specs.Planned.{HavePlans, IsPlanOfPiece, IsAbove}
use Rattle.tce_spill.proofs.Turns.{may_cut}
use Rattle.tce_spill.proofs.PiecePlans.{planned_on, planned_stays, goes_decided, goes_planned, joined_count}
use Rattle.tce_spill.proofs.cutting.decide.Goals as goal

pub returns-then-not-has_node : goal.returns-then-not-has_node
returns-then-not-has_node c =
    planned_on c.args.spec.now c.args.limit c.args.planned.now c.args.v c.requires.planned (sym c.has_node.ensures ∙ c.if-not-has_node.true)

pub plan_within-requires-clause-cuts : goal.plan_within-requires-clause-cuts
plan_within-requires-clause-cuts c =
    may_cut c.args.spec.now c.args.limit (has c.args.planned.now.nodes) (has c.without_node-fewer.result) c.args.v c.root_over-root.result c.requires.planned.decided
    c.without_node-fewer.ensures c.root_over-root.ensures

pub returns-in_default : goal.returns-in_default
returns-in_default c =
    let s = c.args.spec.now in
    let fewer = has c.without_node-fewer.result in
    let r = c.root_over-root.result in
    let above = subst (λ (o : Option Plan). IfNone o (IsAbove s fewer r c.args.limit)) c.in_default.is c.in_ok-joined.ensures.none in
    planned_stays s c.args.limit c.args.planned.now c.args.v c.requires.planned fewer r c.without_node-fewer.ensures c.root_over-root.ensures above

pub returns : goal.returns
returns c =
    let s = c.args.spec.now in
    let planned = c.args.planned.now in
    let fewer = has c.without_node-fewer.result in
    let r = c.root_over-root.result in
    let joined = c.in-Some.joined in
    let one = subst (λ (o : Option Plan). IfSome o (IsPlanOfPiece s fewer r)) c.in-Some.is c.in_ok-joined.ensures.plan in
    let low = subst (λ (o : Option Plan). IfSome o (λ plan. plan.memory ≤ c.args.limit)) c.in-Some.is c.in_ok-joined.ensures.within in
    record {
      decided = goes_decided s c.args.limit planned c.args.v c.requires.planned fewer r c.without_node-fewer.ensures c.root_over-root.ensures joined one c.requires.inside low;
      count = ap length c.put_joined.ensures ∙ joined_count s (has planned.nodes) planned.plans.items c.args.v r joined c.requires.planned.count;
      plans =
          subst (HavePlans s fewer) (sym c.put_joined.ensures)
          (goes_planned s c.args.limit planned c.args.v c.requires.planned fewer r c.without_node-fewer.ensures c.root_over-root.ensures joined one c.requires.inside);
    }
