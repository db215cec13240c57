-- The worked slots, computed by the definitions.
use Rattle.std.proofs.Common.{refl}
use Rattle.tce_space.specs.IndexSet.{has, union, minus, with_index, members, volume}
use Rattle.tce_tree.specs.ContractionTree.{node, node_dims}
use Rattle.tce_tree.specs.Fusion.{kept_dims}
use Rattle.tce_tree.specs.Memory.{size_at, size_before}
use Rattle.tce_layout.specs.Layout.{step_of}
use Rattle.tce_layout.specs.Examples.{WorkedSlots}

pub worked_slots : WorkedSlots
unfolding has union minus with_index members volume node node_dims kept_dims size_at size_before step_of
worked_slots = record {
  fused_sum = refl;
  unfused_sums = refl;
  sum_steps = refl;
  fused_steps = refl;
  long_offsets = refl;
  long_steps = refl;
  whole_steps = refl;
}
