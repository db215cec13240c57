-- Bands: elements that follow each other in row-major order, and that stand in an array file in pieces.
use Rattle.std.specs.Prelude.{◌≡◌, ℕ, ◌+◌, ◌*◌, ◌%◌, ◌<◌, ◌≤◌, List, length, drop, get_or, slice_index}
use Rattle.tce_space.specs.Box.{product, place, IsInside}
use Rattle.tce_space.specs.Tiling.{Tiling, IsTiling, tile_counts, word_number, elements, padded_words}
use Rattle.tce_tools.specs.Runs.{AreElements}
use Rattle.tce_tools.specs.declared.band.Band.{Band}
use Rattle.tce_tools.specs.declared.band.Behind.{Behind}
use Rattle.tce_tools.specs.declared.shuffle.Part.{Part}

-- the word with this number is in a piece, and so many words of the pieces stand before it
pub record IsAt (band : Band) (word index : ℕ) : Type 0 where
  pub piece : ℕ
  pub offset : ℕ
  pub among : piece < band.pieces
  pub within : offset < band.piece_len
  pub word_is : word ≡ band.word + (piece * band.stride + offset)
  pub index_is : index ≡ piece * band.piece_len + offset

-- the words of the pieces that are elements are those of the elements from one on
pub record IsBand (s : Tiling) (band : Band) : Type 0 where
  pub tiling : IsTiling s
  pub few : elements s ≤ padded_words s
  pub some : 0 < band.len
  pub short : band.len ≤ 32768
  pub small : band.pieces * band.piece_len ≤ 32768
  pub inside : band.start + band.len ≤ elements s
  pub apart : band.piece_len ≤ band.stride
  pub room : (piece : ℕ) → piece < band.pieces → band.word + piece * band.stride + band.piece_len ≤ padded_words s
  pub word : (xs : List ℕ) → IsInside s.extents xs → band.start ≤ place s.extents xs → place s.extents xs < band.start + band.len → (index : ℕ) × IsAt band (word_number s xs) index
  pub element : (xs : List ℕ) → IsInside s.extents xs → (index : ℕ) → IsAt band (word_number s xs) index → (band.start ≤ place s.extents xs) × (place s.extents xs < band.start + band.len)

-- the elements outside the band are as they were
abbrev pub KeepsOutside : Tiling → Band → (List ℕ → ℕ) → (List ℕ → ℕ) → Type 0
KeepsOutside s band old new =
    (xs : List ℕ) → IsInside s.extents xs → (band.start ≤ place s.extents xs → place s.extents xs < band.start + band.len → ⊥) → new xs ≡ old xs

-- the words of the pieces, one piece after the other, are the elements
abbrev pub AreTiled : Tiling → Band → (List ℕ → ℕ) → List ℕ → Type 0
AreTiled s band element tiled =
    (xs : List ℕ) → IsInside s.extents xs → (index : ℕ) → IsAt band (word_number s xs) index → slice_index tiled index ≡ element xs

-- the other words of the pieces are 0
abbrev pub AreZerosBetween : Tiling → Band → List ℕ → Type 0
AreZerosBetween s band tiled =
    (index : ℕ) → ((xs : List ℕ) → IsInside s.extents xs → IsAt band (word_number s xs) index → ⊥) → slice_index tiled index ≡ 0

-- the elements from one on stand together among the words of the pieces
pub record IsPart (s : Tiling) (band : Band) (start : ℕ) (part : Part) : Type 0 where
  pub some : 0 < part.len
  pub inside : start + part.len ≤ band.start + band.len
  pub room : part.index + part.len ≤ band.pieces * band.piece_len
  pub at : (k : ℕ) → k < part.len → (xs : List ℕ) → IsInside s.extents xs → place s.extents xs ≡ start + k → IsAt band (word_number s xs) (part.index + k)

-- the elements, and the tiles and the words of a tile, of the dimensions behind one, which fit the longest band
pub record IsBehind (s : Tiling) (behind : Behind) : Type 0 where
  pub dimension : behind.dimension < length s.extents
  pub elements : behind.elements ≡ product (drop (behind.dimension + 1) s.extents)
  pub tiles : behind.tiles ≡ product (drop (behind.dimension + 1) (tile_counts s))
  pub words : behind.words ≡ product (drop (behind.dimension + 1) s.edges)
  pub fits : behind.tiles * behind.words ≤ 32768

-- so many steps along a dimension, from some coordinates on, stay in the array, and in the tile
abbrev pub StaysInArray : Tiling → List ℕ → ℕ → ℕ → Type 0
StaysInArray s xs dimension steps = get_or xs dimension 0 + steps ≤ get_or s.extents dimension 0

abbrev pub StaysInTile : Tiling → List ℕ → ℕ → ℕ → Type 0
StaysInTile s xs dimension steps = get_or xs dimension 0 % get_or s.edges dimension 0 + steps ≤ get_or s.edges dimension 0

-- words that are the tiled ones of some elements are, untiled, those elements from one on, and the other way round
abbrev pub Untiles : Tiling → Band → List ℕ → List ℕ → Type 0
Untiles s band tiled words = (element : List ℕ → ℕ) → AreTiled s band element tiled → AreElements s element band.start words

abbrev pub Tiles : Tiling → Band → List ℕ → List ℕ → Type 0
Tiles s band words tiled = (element : List ℕ → ℕ) → AreElements s element band.start words → AreTiled s band element tiled
