use Rattle.std.proofs.lemmas.Bool.{false≢true}
use Rattle.tce_check.proofs.Joints.{none_joined}
use Rattle.tce_check.proofs.joint.joint.Goals as goal

pub returns-in_err-classes-clause-quiet : goal.returns-in_err-classes-clause-quiet
returns-in_err-classes-clause-quiet c =
    none_joined c.args.loops _ _ c.args.left.now c.args.right.now c.from_residual.result c.from_residual.ensures c.left.view_is c.right.view_is
    (λ quiet. false≢true (c.in_err-classes.ensures.conflict.1 quiet))
