use Rattle.std.proofs.Common.{◌≡◌, ◌++◌, take, map}
use Rattle.tce_space.specs.IndexSet.{with_index}
use Rattle.tce_nesting.proofs.subset_list.widen.Given as goal

abbrev pub invariant-loop-place : goal.invariant-loop-place
invariant-loop-place l = l.sets.items ≡ l.fn.sets.items ++ map (λ set. with_index set l.index) (take l.place l.fn.sets.items)
