use Rattle.std.proofs.Common.{arith, ap}
use Rattle.tce_fusion.specs.Row.{Row}
use Rattle.tce_check.proofs.Joints.{steps_of_bound}
use Rattle.tce_check.proofs.steps.Node.is_dear.Goals as goal

pub returns-else-reach-both : goal.returns-else-reach-both
returns-else-reach-both c h right limit dear =
    let node = c.args.self.now in
    let own = ap (λ (l : Row). l.cost) c.left.view_is in
    steps_of_bound node.space.now node.tree.now node.outer node.number c.saturating_add-both.result node.rows.now c.args.left.now right
    (omega (arith, own, c.saturating_add-both.ensures, dear)) (c.stands_for_all.ensures h)
