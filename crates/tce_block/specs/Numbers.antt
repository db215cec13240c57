-- Limits of extents and edges.
use Rattle.std.specs.Prelude.{ℕ, ◌^◌, ◌<◌, ◌≤◌, List, [], ◌∷◌, length}
use Rattle.tce_space.specs.Limits.{max_loops}
use Rattle.tce_space.specs.Box.{IsInside}
use Rattle.tce_space.specs.Tiling.{counts_along}

-- an edge for each extent, from 1 to the extent, which is below 2^32
abbrev pub AreWithin : List ℕ → List ℕ → Type 0
AreWithin [] [] = Unit {0}
AreWithin [] (e ∷ es) = ⊥
AreWithin (n ∷ ns) [] = ⊥
AreWithin (n ∷ ns) (e ∷ es) = (n < 2 ^ 32) × (0 < e) × (e ≤ n) × AreWithin ns es

-- the numbers are those of a block, of at most ten dimensions
pub record IsNumbered (extents edges numbers : List ℕ) : Type 0 where
  pub within : AreWithin extents edges
  pub inside : IsInside (counts_along extents edges) numbers
  pub few : length extents ≤ max_loops
