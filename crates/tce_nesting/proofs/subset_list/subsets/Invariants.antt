use Rattle.std.proofs.Common.{◌≡◌}
use Rattle.tce_nesting.proofs.SubsetLists.{subsets_below}
use Rattle.tce_nesting.proofs.subset_list.subsets.Given as goal

abbrev pub invariant-loop-index : goal.invariant-loop-index
invariant-loop-index l = l.sets.items ≡ subsets_below l.set l.index
