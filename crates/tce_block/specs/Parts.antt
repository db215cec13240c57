-- A box of coordinates, cut at the multiples of an edge in each dimension.
use Rattle.std.specs.Prelude.{ℕ, ◌+◌, ◌-◌, ◌*◌, ◌<◌, ◌≤◌, min, List, [], ◌∷◌, map}
use Rattle.tce_space.specs.Box.{places}
use Rattle.tce_space.specs.Tiling.{counts_along}

-- a part of a box: in each dimension its first number, and how many numbers it has there
pub record Part : Type 0 where
  pub from : List ℕ
  pub len : List ℕ

-- the coordinates lie in the part
abbrev pub IsBetween : List ℕ → List ℕ → List ℕ → Type 0
IsBetween [] [] [] = Unit {0}
IsBetween [] [] (x ∷ xs) = ⊥
IsBetween [] (l ∷ ls) xs = ⊥
IsBetween (f ∷ fs) [] xs = ⊥
IsBetween (f ∷ fs) (l ∷ ls) [] = ⊥
IsBetween (f ∷ fs) (l ∷ ls) (x ∷ xs) = (f ≤ x) × (x < f + l) × IsBetween fs ls xs

abbrev pub IsIn : Part → List ℕ → Type 0
IsIn part xs = IsBetween part.from part.len xs

-- in each dimension the part with number `b` begins at the multiple `b * e` of the edge
abbrev pub beginnings : List ℕ → List ℕ → List ℕ
beginnings [] bs = []
beginnings (e ∷ es) [] = []
beginnings (e ∷ es) (b ∷ bs) = b * e ∷ beginnings es bs

-- and ends before the next multiple or the extent
abbrev pub lengths : List ℕ → List ℕ → List ℕ → List ℕ
lengths [] es bs = []
lengths (n ∷ ns) [] bs = []
lengths (n ∷ ns) (e ∷ es) [] = []
lengths (n ∷ ns) (e ∷ es) (b ∷ bs) = (min ((b + 1) * e) n - b * e) ∷ lengths ns es bs

abbrev pub block : List ℕ → List ℕ → List ℕ → Part
block extents edges numbers = record { from = beginnings edges numbers; len = lengths extents edges numbers }

-- the blocks of a box, in row-major order of their numbers
unfoldable pub blocks : List ℕ → List ℕ → List Part
blocks extents edges = map (block extents edges) (places (counts_along extents edges))
