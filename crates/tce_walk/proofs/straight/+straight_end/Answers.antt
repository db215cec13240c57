use Rattle.tce_code.specs.declared.op.Op.TheVariants.{Open}
use Rattle.tce_walk.proofs.StraightBodies.{straight-later}
use Rattle.tce_walk.proofs.straight.+straight_end.Goals as goal

pub returns-then-is_operation : goal.returns-then-is_operation
returns-then-is_operation t c =
    straight-later c.args.ops.now c.args.at (Open 0) c.straight_end.result c.if-at-ops.false (c.is_operation.ensures c.if-is_operation.true) c.straight_end.ensures
