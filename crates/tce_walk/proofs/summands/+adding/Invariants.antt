use Rattle.std.proofs.Common.{◌+◌, ◌*◌}
use Rattle.tce_walk.proofs.summands.+adding.Given as goal

abbrev pub decreases-add_left : goal.decreases-add_left
decreases-add_left l = 3 * l.v

abbrev pub decreases-add_right : goal.decreases-add_right
decreases-add_right l = 3 * l.v

abbrev pub decreases-add_product : goal.decreases-add_product
decreases-add_product l = 3 * l.v + 1

abbrev pub decreases-add_node : goal.decreases-add_node
decreases-add_node l = 3 * l.v + 2
