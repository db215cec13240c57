-- Elements of the whole array, by the place of their other coordinates and the two.
use Rattle.std.specs.Prelude.{◌≡◌, ℕ, ◌+◌, ◌*◌, ◌^◌, ◌<◌, ◌≤◌, Bool, false, nat_lt, if◌then◌else◌, List, length, IsTrue}
use Rattle.tce_space.specs.Limits.{max_array_words}
use Rattle.tce_space.specs.Box.{product, place}
use Rattle.tce_sym.specs.declared.symmetry.Symmetry.{Symmetry}
use Rattle.tce_sym.specs.declared.cells.Triangles.{Triangles}
use Rattle.tce_sym.specs.declared.cells.Pair.{Pair}
use Rattle.tce_sym.specs.declared.rows.Row.{Row}
use Rattle.tce_sym.specs.declared.tile_rows.TileRow.{TileRow}
use Rattle.tce_sym.specs.declared.walks.Walk.{Walk}
use Rattle.tce_sym.specs.Storage.{IsPair, at_first, at_second, at_others, pairs, stored_word, turned}

pub record AreTriangles (t : Triangles) : Type 0 where
  pub extent : t.extent < 2 ^ 32
  pub pairs : t.pairs ≡ pairs t.negated t.extent
  pub count : t.count ≡ t.others * t.pairs
  pub small : t.count ≤ max_array_words
  pub few : t.others ≤ max_array_words
  pub grid : t.slots.grid.count ≡ t.count

-- the triangles are those of a tensor
pub record AreOf (extents : List ℕ) (s : Symmetry) (t : Triangles) : Type 0 where
  pub negated : t.negated ≡ s.negated
  pub extent : t.extent ≡ at_first s extents
  pub others : t.others ≡ product (at_others s extents)

-- the element is one of the array
pub record IsAmong (t : Triangles) (pair : Pair) : Type 0 where
  pub outer : pair.outer < t.others
  pub first : pair.first < t.extent
  pub second : pair.second < t.extent

-- above the diagonal or on it, below it or on it, below it; stored, which is above it where the sign turns, and else also on it
abbrev pub IsUpper : Pair → Type 0
IsUpper pair = pair.first ≤ pair.second

abbrev pub IsLower : Pair → Type 0
IsLower pair = pair.second ≤ pair.first

abbrev pub IsMirrored : Pair → Type 0
IsMirrored pair = pair.second < pair.first

abbrev pub IsStoredPair : Bool → Pair → Type 0
IsStoredPair negated pair = IsPair negated pair.first pair.second

-- the place of a pair that is stored
abbrev pub pair_place : Triangles → Pair → ℕ
pair_place t pair = pair.outer * t.pairs + (pairs t.negated pair.second + pair.first)

abbrev pub mirror : Pair → Pair
mirror pair = record { outer = pair.outer; first = pair.second; second = pair.first }

-- an element, of the word of its pair and that of the mirrored one
abbrev pub cell_by : Bool → ℕ → ℕ → ℕ → ℕ → ℕ
cell_by negated a b word mirrored = if nat_lt a b then word else if nat_lt b a then turned negated mirrored else (if negated then 0 else word)

abbrev pub cell_of : Triangles → List ℕ → Pair → ℕ
cell_of t bytes pair = cell_by t.negated pair.first pair.second (stored_word bytes (pair_place t pair)) (stored_word bytes (pair_place t (mirror pair)))

-- the element with these coordinates
pub record IsPairOf (extents : List ℕ) (s : Symmetry) (xs : List ℕ) (pair : Pair) : Type 0 where
  pub outer : pair.outer ≡ place (at_others s extents) (at_others s xs)
  pub first : pair.first ≡ at_first s xs
  pub second : pair.second ≡ at_second s xs

-- of the words of a tile's row, if any is an element: the first element; the row goes along the second position, or along another
abbrev pub IsFirstPairOf : List ℕ → Symmetry → TileRow → Pair → Type 0
IsFirstPairOf extents s row pair = 0 < row.used → IsPairOf extents s row.coords.items pair

abbrev pub IsAlongSecond : Symmetry → TileRow → Bool → Type 0
IsAlongSecond s row is_second = 0 < row.used → IsTrue is_second → s.second + 1 ≡ length row.coords.items

abbrev pub IsAlongOther : Symmetry → TileRow → Bool → Type 0
IsAlongOther s row is_second = 0 < row.used → is_second ≡ false → s.second + 1 < length row.coords.items

-- the element so many steps on in a row
abbrev pub moved_pair : Row → ℕ → Pair
moved_pair row k =
    if row.is_second then record { outer = row.pair.outer; first = row.pair.first; second = row.pair.second + k }
    else record { outer = row.pair.outer + k; first = row.pair.first; second = row.pair.second }

-- a walk goes through the words of a row of stored elements, or of mirrored ones
pub record IsWalkOf (t : Triangles) (row : Row) (walk : Walk) : Type 0 where
  pub place : walk.place ≡ pair_place t row.pair
  pub step : walk.step ≡ (if row.is_second then row.pair.second + (if t.negated then 0 else 1) else t.pairs)
  pub grows : walk.grows ≡ row.is_second

pub record IsMirroredWalkOf (t : Triangles) (row : Row) (walk : Walk) : Type 0 where
  pub place : walk.place ≡ pair_place t (mirror row.pair)
  pub step : walk.step ≡ (if row.is_second then 1 else t.pairs)
  pub grows : walk.grows ≡ false
