use Rattle.std.proofs.Common.{◌≡◌, ◌||◌, ◌<◌, ℕ, length, All}
use Rattle.tce_space.specs.IndexSet.{has}
use Rattle.tce_tree.specs.WellFormed.{among}
use Rattle.tce_einsum.proofs.label_set.LabelSet.of_list.Given as goal

abbrev pub invariant-loop-rest : goal.invariant-loop-rest
invariant-loop-rest l = record {
  members : (i : ℕ) → (has l.all.bits i || among l.rest i) ≡ among l.labels i;
  below : All (λ i. i < 32) l.rest;
}

abbrev pub decreases-loop-rest : goal.decreases-loop-rest
decreases-loop-rest l = length l.rest
