use Rattle.std.proofs.Common.{◌+◌, arith, ap, ◌∙◌, subst}
use Rattle.std.specs.List.{Any}
use Rattle.tce_fusion.specs.Relation.{Relation}
use Rattle.tce_fusion.specs.Row.{Row, StandsFor}
use Rattle.tce_check.specs.Joint.{IsJointOf}
use Rattle.tce_check.proofs.Joints.{steps_of_bound}
use Rattle.tce_check.proofs.steps.Node.covers_pair.Goals as goal

pub returns-then-stands_for_all : goal.returns-then-stands_for_all
returns-then-stands_for_all c _ =
    let node = c.args.self.now in
    let cost = ap (λ (l : Row). l.cost + c.right.inside.cost) c.left.view_is ∙ ap (λ (r : Row). c.args.left.now.cost + r.cost) c.right.view_is in
    let all = subst (λ n. (relation : Relation) → Any (StandsFor node.outer relation n) node.rows.now) cost
    (c.stands_for_all.ensures c.if-stands_for_all.true) in
    λ quiet. steps_of_bound node.space.now node.tree.now node.outer node.number (c.args.left.now.cost + c.args.right.now.cost) node.rows.now c.args.left.now c.args.right.now (omega arith) all

pub returns-in-Some : goal.returns-in-Some
returns-in-Some c h _ =
    let join = subst (λ s. IsJointOf s c.args.left.now c.args.right.now c.in-Some.joint) c.loops.ensures.value c.in-Some.ensures.joins in
    c.covers_joint.ensures h c.args.left.now c.args.right.now join c.requires.left c.requires.right
