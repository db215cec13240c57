use Rattle.std.proofs.Common.{◌≡◌, ◌≤◌, ◌^◌, take, map, length}
use Rattle.std.specs.List.{All}
use Rattle.tce_nesting.specs.Choices.{LeavesSize}
use Rattle.tce_nesting.proofs.choice.choices.Given as goal

abbrev pub invariant-loop-fused : goal.invariant-loop-fused
invariant-loop-fused l = record {
  sets : map (λ choice. choice.fused) l.choices.items ≡ take l.fused-index l.fused-items;
  sizes : All (LeavesSize l.space l.tree l.v) l.choices.items;
  limit : All (λ choice. choice.size ≤ 2 ^ 90) l.choices.items;
  count : length l.choices.items ≡ l.fused-index;
}
