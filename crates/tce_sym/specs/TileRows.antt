-- Words of an array file that stand together in a row of a tile, and the elements among them.
use Rattle.std.specs.Prelude.{◌≡◌, ℕ, ◌+◌, ◌-◌, ◌*◌, ◌<◌, ◌≤◌, List, length, get_or, slice_index}
use Rattle.tce_space.specs.Box.{place, IsInside}
use Rattle.tce_space.specs.Tiling.{Tiling, joined, tile_counts, tile_words, word_number}
use Rattle.tce_tools.specs.Runs.{moved}
use Rattle.tce_sym.specs.declared.tile_rows.TileRow.{TileRow}

-- the coordinates of a word, which are beyond the extents where it is padding
pub record IsWordOf (s : Tiling) (word : ℕ) (xs : List ℕ) : Type 0 where
  pub tile : List ℕ
  pub inner : List ℕ
  pub tile_in : IsInside (tile_counts s) tile
  pub inner_in : IsInside s.edges inner
  pub number : tile_words s * place (tile_counts s) tile + place s.edges inner ≡ word
  pub coords : xs ≡ joined s.edges tile inner

-- the words from one on: elements along the last dimension, and then padding
pub record IsTileRow (s : Tiling) (word : ℕ) (row : TileRow) : Type 0 where
  pub some : 0 < row.len
  pub used : row.used ≤ row.len
  pub inside : (k : ℕ) → k < row.used → IsInside s.extents (moved row.coords.items k)
  pub numbers : (k : ℕ) → k < row.used → word_number s (moved row.coords.items k) ≡ word + k
  pub padding : (k : ℕ) → row.used ≤ k → k < row.len → (xs : List ℕ) → IsInside s.extents xs → word_number s xs ≡ word + k → ⊥

-- the first words of a list are those of an array file from one on: the elements, and zeros
pub record AreWords (s : Tiling) (element : List ℕ → ℕ) (from count : ℕ) (words : List ℕ) : Type 0 where
  pub elements : (k : ℕ) → k < count → (xs : List ℕ) → IsInside s.extents xs → word_number s xs ≡ from + k → slice_index words k ≡ element xs
  pub padding : (k : ℕ) → k < count → ((xs : List ℕ) → IsInside s.extents xs → word_number s xs ≡ from + k → ⊥) → slice_index words k ≡ 0

-- so many steps along the last dimension, if there are any, reach the end of the array
abbrev pub ReachesEnd : List ℕ → List ℕ → ℕ → Type 0
ReachesEnd extents xs steps = 0 < steps → get_or xs (length extents - 1) 0 + steps ≡ get_or extents (length extents - 1) 0
