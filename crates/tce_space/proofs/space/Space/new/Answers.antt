use Rattle.tce_space.proofs.Spaces.{starts}
use Rattle.tce_space.proofs.space.Space.new.Goals as goal

pub invariant_of-result : goal.invariant_of-result
invariant_of-result c = rw (c.in_ok-with_capacity.ensures.empty, c.in_ok-with_capacity-2.ensures.empty) starts
