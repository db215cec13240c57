use Rattle.std.proofs.Common.{arith, ap, sym, subst}
use Rattle.tce_tree.specs.ContractionTree.{node_loops}
use Rattle.tce_fusion.specs.Row.{Row}
use Rattle.tce_check.specs.Tops.{AreTops}
use Rattle.tce_check.proofs.Joints.{steps_of_choices}
use Rattle.tce_check.proofs.Reaches.{tops_of_joint}
use Rattle.tce_check.proofs.steps.Node.covers_joint.Goals as goal

pub returns-then-reach_with-joint : goal.returns-then-reach_with-joint
returns-then-reach_with-joint c h left right join ll rl =
    let node = c.args.self.now in
    let loops = node_loops node.tree.now node.number in
    let joint = c.args.joint.now in
    let cost = ap (λ (r : Row). r.cost) c.joint.view_is in
    let are = subst (AreTops loops joint) (sym c.as_slice.ensures.value)
    (subst (λ all. AreTops all joint c.tops_of-tops.result.items) c.loops.ensures.value c.tops_of-tops.ensures) in
    c.reach_with.ensures left right (tops_of_joint loops left right joint c.as_slice.result.now join are) ll rl (omega (arith, join.cost, cost))

pub returns : goal.returns
returns c h left right join ll rl =
    let node = c.args.self.now in
    steps_of_choices node.space.now node.tree.now node.outer node.number node.rows.now left right c.args.joint.now
    node.choices.now c.requires.ready.inside join c.requires.ready.choices (c.covers_choices.ensures h)
