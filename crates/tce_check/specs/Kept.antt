-- Lists of places of rows, of which the first so many count, and loops that rows put below no other of some loops.
use Rattle.std.specs.Prelude.{◌≡◌, ℕ, ◌<◌, ◌≤◌, false, List, length, slice_index_or, IsTrue}
use Rattle.tce_space.specs.IndexSet.{has}
use Rattle.tce_fusion.specs.Relation.{above}
use Rattle.tce_fusion.specs.Row.{Row, StandsFor}

-- the loop is one of the rest, and the row puts no other of them above it
pub record IsUppermost (rest : ℕ) (row : Row) (index : ℕ) : Type 0 where
  pub inside : IsTrue (has rest index)
  pub upper : (j : ℕ) → IsTrue (has rest j) → above row.classes j index ≡ false

-- the row stands at the place
pub record IsRowAt (rows : List Row) (place : ℕ) (row : Row) : Type 0 where
  pub inside : place < length rows
  pub is : row ≡ slice_index_or rows place row

-- the row stands at one of the first places
pub record IsKept (rows : List Row) (places : List ℕ) (count : ℕ) (row : Row) : Type 0 where
  pub at : ℕ
  pub low : at < count
  pub stands : IsRowAt rows (slice_index_or places at 0) row

-- from so many first places on, the rows that stand at these stay there
abbrev pub StayKept : ℕ → List ℕ → List ℕ → Type 0
StayKept count old new =
    (rows : List Row) (upto : ℕ) (row : Row) → count ≤ upto → upto ≤ length old → IsKept rows old upto row → IsKept rows new upto row

-- a row is kept that stands for this one as far as the rest of the loops goes
pub record HasKept (rest : ℕ) (rows : List Row) (places : List ℕ) (count : ℕ) (row : Row) : Type 0 where
  pub other : Row
  pub is : IsKept rows places count other
  pub stands : StandsFor rest (above row.classes) row.cost other

-- for which rows one of those that were kept stands, one of those that are kept does
abbrev pub StandIn : ℕ → List Row → List ℕ → ℕ → List ℕ → ℕ → Type 0
StandIn rest rows old before new count = (row : Row) → HasKept rest rows old before row → HasKept rest rows new count row
