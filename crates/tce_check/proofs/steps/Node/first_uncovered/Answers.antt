use Rattle.std.proofs.Common.{◌<◌, ◌^◌, sym, subst}
use Rattle.std.proofs.lemmas.List.Elements.{AllWithin-none}
use Rattle.std.specs.List.{All}
use Rattle.tce_fusion.specs.Row.{Row}
use Rattle.tce_fusion.specs.Cover.{StepsCovered}
use Rattle.tce_check.specs.First.{First}
use Rattle.tce_check.specs.Verdict.{WhereJoined, IsLeastUncovered}
use Rattle.tce_check.proofs.Firsts.{first_at, one_more, all_passed}
use Rattle.tce_check.proofs.steps.Node.first_uncovered.Goals as goal

pub returns-in-Some : goal.returns-in-Some
returns-in-Some c =
    let node = c.args.self.now in
    let Holds = WhereJoined node.tree.now node.number (StepsCovered node.space.now node.tree.now node.outer node.number node.rows.now) in
    let Fails = IsLeastUncovered node.space.now node.tree.now node.outer node.number node.rows.now c.in-Some.step.fused c.in-Some.step.state in
    first_at (λ (left : Row). All (Holds left) c.args.rights.now) (λ (left : Row). First (Holds left) (Fails left) c.args.rights.now)
    c.args.lefts.now c.loop-left.left-index c.left-item.result c.loop-left-test.true c.left-item.is c.loop-left.invariant c.in-Some.ensures

pub loop-left-preserved : goal.loop-left-preserved
loop-left-preserved c =
    let node = c.args.self.now in
    let Holds = WhereJoined node.tree.now node.number (StepsCovered node.space.now node.tree.now node.outer node.number node.rows.now) in
    one_more (λ (left : Row). All (Holds left) c.args.rights.now)
    c.args.lefts.now c.loop-left.left-index c.left-item.result c.loop-left-test.true c.left-item.is c.loop-left.invariant c.in_default.ensures

pub covers-requires-clause-ready : goal.covers-requires-clause-ready
covers-requires-clause-ready c = c.requires.ready

pub covers-requires-clause-lefts : goal.covers-requires-clause-lefts
covers-requires-clause-lefts c = c.requires.lefts

pub covers-requires-clause-rights : goal.covers-requires-clause-rights
covers-requires-clause-rights c = c.requires.rights

pub returns-then-covers : goal.returns-then-covers
returns-then-covers c = c.covers.ensures c.if-covers.true

pub loop-left-init : goal.loop-left-init
loop-left-init c =
    let node = c.args.self.now in
    let Holds = WhereJoined node.tree.now node.number (StepsCovered node.space.now node.tree.now node.outer node.number node.rows.now) in
    AllWithin-none (λ (left : Row). All (Holds left) c.args.rights.now) c.args.lefts.now 0

pub first_uncovered_with-requires-clause-ready : goal.first_uncovered_with-requires-clause-ready
first_uncovered_with-requires-clause-ready c = c.requires.ready

pub first_uncovered_with-requires-clause-left : goal.first_uncovered_with-requires-clause-left
first_uncovered_with-requires-clause-left c =
    subst (λ (row : Row). row.cost < 2 ^ 96) (sym c.left-item.is) (c.requires.lefts c.loop-left.left-index c.left-item.result c.loop-left-test.true)

pub first_uncovered_with-requires-clause-rights : goal.first_uncovered_with-requires-clause-rights
first_uncovered_with-requires-clause-rights c = c.requires.rights

pub returns : goal.returns
returns c =
    let node = c.args.self.now in
    let Holds = WhereJoined node.tree.now node.number (StepsCovered node.space.now node.tree.now node.outer node.number node.rows.now) in
    all_passed (λ (left : Row). All (Holds left) c.args.rights.now) c.args.lefts.now c.loop-left.left-index c.loop-left-test.false c.loop-left.invariant
