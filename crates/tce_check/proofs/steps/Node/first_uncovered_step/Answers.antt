use Rattle.std.proofs.Common.{◌+◌, arith, refl, ap, ◌∙◌, subst}
use Rattle.std.specs.List.{Any}
use Rattle.tce_fusion.specs.Relation.{Relation, HasNoConflict}
use Rattle.tce_fusion.specs.Row.{Row, StandsFor, rows_joined}
use Rattle.tce_check.specs.Joint.{IsJointOf}
use Rattle.tce_check.proofs.Joints.{steps_of_bound, steps_of_choices, least_of_choices}
use Rattle.tce_check.proofs.steps.Node.first_uncovered_step.Goals as goal

pub returns-in_err-choice : goal.returns-in_err-choice
returns-in_err-choice c =
    let node = c.args.self.now in
    let join = subst (λ s. IsJointOf s c.args.left.now c.args.right.now c.in_ok-joint.joint) c.loops.ensures.value c.in_ok-joint.ensures.joins in
    rw c.from_residual-in_err-choice.ensures
    (λ quiet. steps_of_choices node.space.now node.tree.now node.outer node.number node.rows.now c.args.left.now c.args.right.now c.in_ok-joint.joint
    node.choices.now c.requires.ready.inside join c.requires.ready.choices c.in_err-choice.ensures.first)

pub returns : goal.returns
returns c =
    let node = c.args.self.now in
    let join = subst (λ s. IsJointOf s c.args.left.now c.args.right.now c.in_ok-joint.joint) c.loops.ensures.value c.in_ok-joint.ensures.joins in
    least_of_choices node.space.now node.tree.now node.outer node.number node.rows.now c.args.left.now c.args.right.now c.in_ok-joint.joint
    node.choices.now c.in_ok-choice.choice c.state_of-state.result c.requires.ready.inside
    (subst (λ s. HasNoConflict s (rows_joined c.args.left.now c.args.right.now)) c.loops.ensures.value (c.in_ok-joint.ensures.quiet.0 refl))
    join c.requires.ready.choices c.in_ok-choice.ensures.first c.state_of-state.ensures.nesting c.state_of-state.ensures.classes c.state_of-state.ensures.cost

pub returns-then-stands_for_all : goal.returns-then-stands_for_all
returns-then-stands_for_all c =
    let node = c.args.self.now in
    let cost = ap (λ (l : Row). l.cost + c.right.inside.cost) c.left.view_is ∙ ap (λ (r : Row). c.args.left.now.cost + r.cost) c.right.view_is in
    let all = subst (λ n. (relation : Relation) → Any (StandsFor node.outer relation n) node.rows.now) cost
    (c.stands_for_all.ensures c.if-stands_for_all.true) in
    λ quiet. steps_of_bound node.space.now node.tree.now node.outer node.number (c.args.left.now.cost + c.args.right.now.cost) node.rows.now c.args.left.now c.args.right.now (omega arith) all
