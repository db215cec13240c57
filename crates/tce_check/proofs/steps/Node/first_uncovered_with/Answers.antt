use Rattle.tce_fusion.specs.Cover.{StepsCovered}
use Rattle.tce_check.specs.Verdict.{WhereJoined, IsLeastUncovered}
use Rattle.tce_check.proofs.Firsts.{first_at, one_more}
use Rattle.tce_check.proofs.steps.Node.first_uncovered_with.Goals as goal

pub returns-in-Some : goal.returns-in-Some
returns-in-Some c =
    let node = c.args.self.now in
    first_at (WhereJoined node.tree.now node.number (StepsCovered node.space.now node.tree.now node.outer node.number node.rows.now) c.args.left.now)
    (IsLeastUncovered node.space.now node.tree.now node.outer node.number node.rows.now c.in-Some.step.fused c.in-Some.step.state c.args.left.now)
    c.args.rights.now c.loop-right.right-index c.right-item.result c.loop-right-test.true c.right-item.is c.loop-right.invariant c.in-Some.ensures

pub loop-right-preserved : goal.loop-right-preserved
loop-right-preserved c =
    let node = c.args.self.now in
    one_more (WhereJoined node.tree.now node.number (StepsCovered node.space.now node.tree.now node.outer node.number node.rows.now) c.args.left.now)
    c.args.rights.now c.loop-right.right-index c.right-item.result c.loop-right-test.true c.right-item.is c.loop-right.invariant c.in_default.ensures
