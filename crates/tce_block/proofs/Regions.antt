-- The least and the greatest of the places of a box.
use Rattle.std.proofs.Common.{ℕ, ◌+◌, ◌-◌, ◌<◌, ◌≤◌, ◌⊎◌, inl, inr, List, [], ◌∷◌, arith}
use Rattle.std.proofs.Math.Nat.{mul-le-mul_right}
use Rattle.tce_space.specs.Box.{IsInside}
use Rattle.tce_block.specs.Places.{offset, word_place, AreWithin, AreApart}
use Rattle.tce_block.specs.StrideLaws.{farthest}

pub offset_far : (lens steps xs : List ℕ) → IsInside lens xs → offset steps xs ≤ farthest lens steps
offset_far [] [] [] h = omega arith
offset_far [] (s ∷ ss) [] h = omega arith
offset_far [] steps (x ∷ xs) h = absurd h
offset_far (n ∷ ns) steps [] h = absurd h
offset_far (n ∷ ns) [] (x ∷ xs) h = omega arith
offset_far (n ∷ ns) (s ∷ ss) (x ∷ xs) h =
    let below : x ≤ n - 1 = omega (arith, h.0) in
    omega (arith, mul-le-mul_right s below, offset_far ns ss xs h.1)

pub places_within : (count base : ℕ) (lens steps : List ℕ) → base + farthest lens steps < count → AreWithin count lens (word_place base steps)
places_within count base lens steps h = λ xs inside. omega (arith, h, offset_far lens steps xs inside)

pub places_apart : (base other : ℕ) (lens steps other_steps : List ℕ) → (base + farthest lens steps < other) ⊎ (other + farthest lens other_steps < base)
    → AreApart lens (word_place base steps) (word_place other other_steps)
places_apart base other lens steps other_steps h = λ xs ys inside also same.
    elim h [
      | inl before ↦ omega (arith, before, same, offset_far lens steps xs inside)
      | inr behind ↦ omega (arith, behind, same, offset_far lens other_steps ys also)
    ]
