use Rattle.std.proofs.Common.{◌+◌, ◌≤◌}
use Rattle.std.specs.List.{All}
use Rattle.tce_fusion.specs.Row.{Row}
use Rattle.tce_check.specs.First.{First}
use Rattle.tce_check.specs.Verdict.{WhereJoined, IsBelow}
use Rattle.tce_check.proofs.Firsts.{first_at, one_more}
use Rattle.tce_check.proofs.root.first_below_of.Goals as goal

pub returns-in-Some : goal.returns-in-Some
returns-in-Some c =
    let Holds = WhereJoined c.args.tree.now c.args.root (λ (l r : Row). c.args.total ≤ l.cost + r.cost) in
    first_at (λ (left : Row). All (Holds left) c.args.rights.now) (λ (left : Row). First (Holds left) (IsBelow c.args.tree.now c.args.root c.args.total c.in-Some.sum left) c.args.rights.now)
    c.args.lefts.now c.loop-left.left-index c.left-item.result c.loop-left-test.true c.left-item.is c.loop-left.invariant c.in-Some.ensures

pub loop-left-preserved : goal.loop-left-preserved
loop-left-preserved c =
    one_more (λ (left : Row). All (WhereJoined c.args.tree.now c.args.root (λ l r. c.args.total ≤ l.cost + r.cost) left) c.args.rights.now)
    c.args.lefts.now c.loop-left.left-index c.left-item.result c.loop-left-test.true c.left-item.is c.loop-left.invariant c.in_default.ensures
