-- The worked fusions, computed by the definitions.
use Rattle.std.proofs.Common.{refl}
use Rattle.tce_space.specs.IndexSet.{has, union, minus, with_index, members, volume}
use Rattle.tce_tree.specs.ContractionTree.{node, node_dims, in_subtree}
use Rattle.tce_fusion.specs.Scope.{scope, on_path, scope_size}
use Rattle.tce_tree.specs.Fusion.{kept_dims}
use Rattle.tce_tree.specs.Memory.{memory, size_at, size_before}
use Rattle.tce_fusion.specs.Examples.{WorkedFusions}

pub worked_fusions : WorkedFusions
unfolding memory size_before size_at kept_dims volume node_dims node union minus with_index members has scope_size scope on_path in_subtree
worked_fusions = record {
  both = refl;
  second = refl;
  first = refl;
  crossing = refl;
  long = refl;
  sizes_first = refl;
  sizes_third = refl;
  sizes_last = refl;
}
