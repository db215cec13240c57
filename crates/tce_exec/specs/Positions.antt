-- Numbers of all indexes, with the tiles of the ranges in which they lie.
use Rattle.std.specs.Prelude.{◌≡◌, ℕ, ◌/◌, ◌%◌, ◌<◌, slice_index}
use Rattle.std.specs.Int.{div_ceil}
use Rattle.tce_space.specs.Limits.{max_indexes}
use Rattle.tce_space.specs.Space.{IndexSpace, extent_at, edge_at}
use Rattle.tce_tree.specs.Value.{Assignment}
use Rattle.tce_exec.specs.declared.position.Position.{Position}

-- each number lies so far behind the beginning of that tile, and edges and counts are those of the indexes' ranges
pub record IsPosition (space : IndexSpace) (p : Position) : Type 0 where
  pub tiles_are : (i : ℕ) → i < max_indexes → slice_index p.tiles i ≡ slice_index p.numbers i / edge_at space i
  pub rests_are : (i : ℕ) → i < max_indexes → slice_index p.rests i ≡ slice_index p.numbers i % edge_at space i
  pub edges_are : (i : ℕ) → i < max_indexes → slice_index p.edges i ≡ edge_at space i
  pub counts_are : (i : ℕ) → i < max_indexes → slice_index p.counts i ≡ div_ceil (extent_at space i) (edge_at space i)
  pub some : (i : ℕ) → i < max_indexes → 0 < edge_at space i

abbrev pub numbers_of : Position → Assignment
numbers_of p = slice_index p.numbers
