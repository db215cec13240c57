use Rattle.std.proofs.Common.{◌≡◌, ◌≤◌, ◌*◌, ◌^◌, sum_by}
use Rattle.std.specs.List.{range_with_len}
use Rattle.tce_tree.specs.Memory.{size_at}
use Rattle.tce_fusion.proofs.sizes.memory.Given as goal

abbrev pub invariant-loop-v : goal.invariant-loop-v
invariant-loop-v l = record {
  value : l.total ≡ sum_by (size_at l.space l.tree l.fusion.0.items) (range_with_len 0 l.v);
  limit : l.total ≤ l.v * 2 ^ 90;
}
