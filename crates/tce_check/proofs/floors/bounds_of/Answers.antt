use Rattle.tce_check.proofs.Reaches.{bound_floors}
use Rattle.tce_check.proofs.floors.bounds_of.Goals as goal

pub returns : goal.returns
returns c = bound_floors c.args.bound c.unwrap_or-cost.result c.loop-place.floors c.unwrap_or-cost.ensures c.loop-place.invariant.costs
