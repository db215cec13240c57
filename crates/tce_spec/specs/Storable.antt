-- Nodes whose values may be stored in an array.
use Rattle.std.specs.Prelude.{ℕ, ◌+◌, ◌&&◌, nat_lt, nat_le, Bool, List, map, length}
use Rattle.tce_space.specs.Limits.{max_array_words, max_tile_words}
use Rattle.tce_space.specs.IndexSet.{members}
use Rattle.tce_space.specs.Space.{IndexSpace, index_at, tiling_of}
use Rattle.tce_space.specs.Tiling.{Tiling, tile_words, padded_words}
use Rattle.tce_tree.specs.ContractionTree.{ContractionTree, operations, node_dims}

-- the ranges of a node's dims, in the order of the indexes
abbrev pub ranges_of_node : IndexSpace → ContractionTree → ℕ → List ℕ
ranges_of_node space tree v = map (λ i. (index_at space i).of_range) (members (node_dims tree v))

-- the shape of its array
abbrev pub shape_of_node : IndexSpace → ContractionTree → ℕ → Tiling
shape_of_node space tree v = tiling_of space (ranges_of_node space tree v)

-- whether a shape is within the limits of arrays
abbrev pub has_room : Tiling → Bool
has_room s = nat_le (tile_words s) max_tile_words && nat_le (padded_words s) max_array_words

-- whether node `v` is not the root, and has an array: at most eight dims, and a shape within the limits
abbrev pub storable : IndexSpace → ContractionTree → ℕ → Bool
storable space tree v = nat_lt (v + 1) (operations tree) && (nat_le (length (members (node_dims tree v))) 8 && has_room (shape_of_node space tree v))
