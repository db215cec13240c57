use Rattle.tce_check.proofs.Joints.{bound_next}
use Rattle.tce_check.proofs.bound.bound_of.Goals as goal

pub loop-row-preserved : goal.loop-row-preserved
loop-row-preserved c =
    bound_next c.args.outer c.args.rows.now c.loop-row.bound c.lesser-bound.result c.loop-row.row-index c.row-item.result c.loop-row-test.true c.row-item.is c.loop-row.invariant c.lesser-bound.ensures
