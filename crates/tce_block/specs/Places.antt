-- Places of words that are a base and a step for each loop.
use Rattle.std.specs.Prelude.{◌≢◌, ℕ, ◌+◌, ◌*◌, ◌<◌, List, [], ◌∷◌}
use Rattle.tce_space.specs.Box.{IsInside}

-- the sum of the coordinates' steps
abbrev pub offset : List ℕ → List ℕ → ℕ
offset [] xs = 0
offset (s ∷ ss) [] = 0
offset (s ∷ ss) (x ∷ xs) = x * s + offset ss xs

-- the place of the word at the coordinates
abbrev pub word_place : ℕ → List ℕ → List ℕ → ℕ
word_place base steps xs = base + offset steps xs

-- each place that the box has is one of count words
abbrev pub AreWithin : ℕ → List ℕ → (List ℕ → ℕ) → Type 0
AreWithin count lens place = (xs : List ℕ) → IsInside lens xs → place xs < count

-- no place of one is a place of the other
abbrev pub AreApart : List ℕ → (List ℕ → ℕ) → (List ℕ → ℕ) → Type 0
AreApart lens place other = (xs ys : List ℕ) → IsInside lens xs → IsInside lens ys → place xs ≢ other ys
