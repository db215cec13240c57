use Rattle.std.proofs.Common.{filter, AllPairs, IsPermutation}
use Rattle.std.specs.List.{range_with_len}
use Rattle.tce_space.specs.IndexSet.{has}
use Rattle.tce_fusion.specs.Scope.{StandsBefore}
use Rattle.tce_fusion.specs.Tops.{row, size_in}
use Rattle.tce_fusion.proofs.orders.standard_order.Given as goal

abbrev pub invariant-loop-i : goal.invariant-loop-i
invariant-loop-i l = record {
  permutes : IsPermutation (filter (has l.loops) (range_with_len 0 l.i)) l.order.items;
  standard : AllPairs (StandsBefore (λ i. size_in l.count (row l.scopes.0 i) l.v)) l.order.items;
}
