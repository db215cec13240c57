use Rattle.std.proofs.Common.{◌<◌, ◌^◌, sym, subst}
use Rattle.std.proofs.lemmas.List.Elements.{AllWithin-none}
use Rattle.tce_nesting.specs.Ends.{AreRuns}
use Rattle.std.specs.List.{All}
use Rattle.tce_fusion.specs.Row.{Row}
use Rattle.tce_fusion.specs.Cover.{StepsCovered}
use Rattle.tce_check.specs.Verdict.{WhereJoined}
use Rattle.tce_check.proofs.Firsts.{one_more, all_passed, untold}
use Rattle.tce_check.proofs.steps.Node.covers_few.Goals as goal

pub loop-left-preserved : goal.loop-left-preserved
loop-left-preserved c =
    let node = c.args.self.now in
    let Holds = WhereJoined node.tree.now node.number (StepsCovered node.space.now node.tree.now node.outer node.number node.rows.now) in
    one_more (λ (left : Row). All (Holds left) c.args.rights.now)
    c.args.lefts.now c.loop-left.left-index c.left-item.result c.loop-left-test.true c.left-item.is c.loop-left.invariant (c.covers_with.ensures c.if-not-covers_with.false)

pub runs_of-runs-requires : goal.runs_of-runs-requires
runs_of-runs-requires c = c.requires.few

pub loop-left-init : goal.loop-left-init
loop-left-init c =
    let node = c.args.self.now in
    let Holds = WhereJoined node.tree.now node.number (StepsCovered node.space.now node.tree.now node.outer node.number node.rows.now) in
    AllWithin-none (λ (left : Row). All (Holds left) c.args.rights.now) c.args.lefts.now 0

pub covers_with-requires-clause-ready : goal.covers_with-requires-clause-ready
covers_with-requires-clause-ready c = c.requires.ready

pub covers_with-requires-clause-left : goal.covers_with-requires-clause-left
covers_with-requires-clause-left c =
    subst (λ (row : Row). row.cost < 2 ^ 96) (sym c.left-item.is) (c.requires.lefts c.loop-left.left-index c.left-item.result c.loop-left-test.true)

pub covers_with-requires-clause-rights : goal.covers_with-requires-clause-rights
covers_with-requires-clause-rights c = c.requires.rights

pub covers_with-requires-clause-runs : goal.covers_with-requires-clause-runs
covers_with-requires-clause-runs c = subst (λ loops. AreRuns loops c.args.rights.now c.runs_of-runs.result) c.loops.ensures.value c.runs_of-runs.ensures

pub returns-then-not-covers_with : goal.returns-then-not-covers_with
returns-then-not-covers_with c = untold

pub returns : goal.returns
returns c _ =
    let node = c.args.self.now in
    let Holds = WhereJoined node.tree.now node.number (StepsCovered node.space.now node.tree.now node.outer node.number node.rows.now) in
    all_passed (λ (left : Row). All (Holds left) c.args.rights.now) c.args.lefts.now c.loop-left.left-index c.loop-left-test.false c.loop-left.invariant
