use Rattle.std.proofs.Common.{◌≡◌, take}
use Rattle.tce_search.proofs.candidate.with_set.Given as goal

abbrev pub invariant-loop-set : goal.invariant-loop-set
invariant-loop-set l = l.all.items ≡ take l.set-index l.sets
