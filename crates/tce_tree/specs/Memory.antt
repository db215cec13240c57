-- The memory of a fusion: the sum of the sizes of all intermediates.
use Rattle.std.specs.Prelude.{ℕ, ◌-◌, List}
use Rattle.std.specs.List.{sum_by, range_with_len}
use Rattle.tce_space.specs.Space.{IndexSpace, volume_of}
use Rattle.tce_tree.specs.ContractionTree.{ContractionTree, operations}
use Rattle.tce_tree.specs.Fusion.{kept_dims}

-- the elements that node `v` keeps: one for each assignment of its dims that are not fused
unfoldable pub size_at : IndexSpace → ContractionTree → List ℕ → ℕ → ℕ
size_at space tree fusion v = volume_of space (kept_dims tree fusion v)

-- those of the nodes before `v` together
unfoldable pub size_before : IndexSpace → ContractionTree → List ℕ → ℕ → ℕ
size_before space tree fusion v = sum_by (size_at space tree fusion) (range_with_len 0 v)

-- the root is the result, and no intermediate
unfoldable pub memory : IndexSpace → ContractionTree → List ℕ → ℕ
memory space tree fusion = size_before space tree fusion (operations tree - 1)
