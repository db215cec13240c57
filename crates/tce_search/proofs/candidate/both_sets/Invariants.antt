use Rattle.std.proofs.Common.{◌≡◌, ◌++◌, take}
use Rattle.tce_search.proofs.candidate.both_sets.Given as goal

abbrev pub invariant-loop-set : goal.invariant-loop-set
invariant-loop-set l = l.sets.items ≡ take l.set-index l.left

abbrev pub invariant-loop-set-2 : goal.invariant-loop-set-2
invariant-loop-set-2 l = l.sets.items ≡ l.left ++ take l.set-index l.right
