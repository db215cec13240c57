-- When the conditions of a call hold, by the least and the greatest places of the result and the operands.
use Rattle.std.specs.Prelude.{ℕ, ◌+◌, ◌-◌, ◌<◌, ◌⊎◌, List, map}
use Rattle.tce_block.specs.Places.{offset, word_place, AreWithin, AreApart}

-- how far the place of the last coordinates is from the base
abbrev pub farthest : List ℕ → List ℕ → ℕ
farthest lens steps = offset steps (map (λ n. n - 1) lens)

-- places are within where that of the last coordinates is
abbrev pub PlacesAreWithin : Type 0
PlacesAreWithin = (count base : ℕ) (lens steps : List ℕ) → base + farthest lens steps < count → AreWithin count lens (word_place base steps)

-- places of which one's end before the other's begin are apart
abbrev pub PlacesAreApart : Type 0
PlacesAreApart =
    (base other : ℕ) (lens steps other_steps : List ℕ) → (base + farthest lens steps < other) ⊎ (other + farthest lens other_steps < base)
    → AreApart lens (word_place base steps) (word_place other other_steps)
