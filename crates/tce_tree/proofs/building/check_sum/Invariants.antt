use Rattle.std.proofs.Common.{ℕ, ◌≡◌, ◌<◌, get_or, true}
use Rattle.tce_space.specs.IndexSet.{has}
use Rattle.tce_tree.proofs.building.check_sum.Given as goal

abbrev pub invariant-loop-index : goal.invariant-loop-index
invariant-loop-index l = (k : ℕ) → k < l.index-index → has l.dims (get_or l.indexes k 0) ≡ true
