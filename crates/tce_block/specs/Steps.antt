-- Steps through the places of a box in row-major order.
use Rattle.std.specs.Prelude.{◌≡◌, ℕ, ◌+◌, Bool, true, false, List}
use Rattle.tce_space.specs.Box.{IsInside, place, product}

-- the next place of the box, or the first one after the last
pub record IsStep (counts old new : List ℕ) (wrapped : Bool) : Type 0 where
  pub inside : IsInside counts new
  pub next : wrapped ≡ false → place counts new ≡ place counts old + 1
  pub last : wrapped ≡ true → place counts old + 1 ≡ product counts
