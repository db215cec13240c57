-- The first place where something fails, of numbers, of lists and of pairs from two lists.
use Rattle.std.specs.Prelude.{◌⊎◌, ℕ, ◌<◌, List, [], ◌∷◌}
use Rattle.std.specs.List.{All}

-- of the numbers below a count
pub record IsFirst (count : ℕ) (Holds Fails : ℕ → Type 0) (v : ℕ) : Type 0 where
  pub inside : v < count
  pub earlier : (w : ℕ) → w < v → Holds w
  pub fails : Fails v

-- of the elements of a list: one fails, and those before it hold
abbrev pub First : {X : Type 0} → (X → Type 0) → (X → Type 0) → List X → Type 0
First {X} Holds Fails [] = ⊥
First {X} Holds Fails (x ∷ xs) = Fails x ⊎ (Holds x × First Holds Fails xs)

-- of the pairs of elements of two lists, by the left element and then by the right one
abbrev pub FirstPair : {X : Type 0} → (X → X → Type 0) → (X → X → Type 0) → List X → List X → Type 0
FirstPair {X} Holds Fails lefts rights = First (λ left. All (Holds left) rights) (λ left. First (Holds left) (Fails left) rights) lefts
