use Rattle.std.proofs.Common.{◌+◌, ◌≤◌}
use Rattle.tce_check.specs.Verdict.{WhereJoined, IsBelow}
use Rattle.tce_check.proofs.Firsts.{first_at, one_more}
use Rattle.tce_check.proofs.root.first_below_with.Goals as goal

pub returns-in-Some : goal.returns-in-Some
returns-in-Some c =
    first_at (WhereJoined c.args.tree.now c.args.root (λ l r. c.args.total ≤ l.cost + r.cost) c.args.left.now) (IsBelow c.args.tree.now c.args.root c.args.total c.in-Some.sum c.args.left.now)
    c.args.rights.now c.loop-right.right-index c.right-item.result c.loop-right-test.true c.right-item.is c.loop-right.invariant c.in-Some.ensures

pub loop-right-preserved : goal.loop-right-preserved
loop-right-preserved c =
    one_more (WhereJoined c.args.tree.now c.args.root (λ l r. c.args.total ≤ l.cost + r.cost) c.args.left.now)
    c.args.rights.now c.loop-right.right-index c.right-item.result c.loop-right-test.true c.right-item.is c.loop-right.invariant c.in_default.ensures
