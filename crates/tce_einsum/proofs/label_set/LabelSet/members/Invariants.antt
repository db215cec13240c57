use Rattle.std.proofs.Common.{◌≡◌, ◌<◌, filter, All}
use Rattle.std.specs.List.{range_with_len}
use Rattle.tce_space.specs.IndexSet.{has}
use Rattle.tce_einsum.proofs.label_set.LabelSet.members.Given as goal

abbrev pub invariant-loop-label : goal.invariant-loop-label
invariant-loop-label l = record {
  members : l.found.items ≡ filter (has l.self.bits) (range_with_len 0 l.label);
  below : All (λ i. i < 32) l.found.items;
}
