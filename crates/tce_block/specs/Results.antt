-- What loops over indexes leave in a block of words, by the assignments of numbers to the indexes.
use Rattle.std.specs.Prelude.{◌≡◌, ℕ, ◌<◌, ◌^◌, ◌↔◌, IsTrue, Bool, true, if◌then◌else◌, ◌==◌, List, [], ◌∷◌, map, length, slice_index}
use Rattle.tce_base.specs.Word.{wrapping_add}
use Rattle.tce_space.specs.Box.{places, IsInside}
use Rattle.tce_space.specs.Tiling.{ArePositive}
use Rattle.tce_tree.specs.Value.{Assignment, with_number, sum_over}
use Rattle.tce_tree.specs.WellFormed.{among, is_distinct}
use Rattle.tce_block.specs.Last.{last_of_box}
use Rattle.tce_block.specs.Turns.{IsMade}

-- the assignment in which the loops' indexes have these coordinates
abbrev pub assigned : Assignment → List ℕ → List ℕ → Assignment
assigned a [] xs = a
assigned a (i ∷ is) [] = a
assigned a (i ∷ is) (x ∷ xs) = assigned (with_number a i x) is xs

-- at each coordinates of the loops the place and the word are those of the assignment
abbrev pub AreAssigned : (ℕ → ℕ) → List ℕ → Assignment → (List ℕ → ℕ) → (List ℕ → ℕ) → (Assignment → ℕ) → (Assignment → ℕ) → Type 0
AreAssigned extent indexes a place word at f =
    (xs : List ℕ) → IsInside (map extent indexes) xs → (place xs ≡ at (assigned a indexes xs)) × (word xs ≡ f (assigned a indexes xs))

-- each word grows by the sum over all assignments of the loops that fall on its place
abbrev pub GrowthsAddUp : Type 0
GrowthsAddUp =
    (extent : ℕ → ℕ) (indexes : List ℕ) (at f : Assignment → ℕ) (a : Assignment) (place word : List ℕ → ℕ) (old new : List ℕ) (k : ℕ)
    → IsMade (λ w xs. wrapping_add w (word xs)) place (places (map extent indexes)) old new → AreAssigned extent indexes a place word at f
    → k < length old → slice_index old k < 2 ^ 64
    → slice_index new k ≡ wrapping_add (slice_index old k) (sum_over extent indexes (λ b. if at b == k then f b else 0) a)

-- the numbers that an assignment has at the fixed ones of the indexes are those of `b`
abbrev pub HasNumbers : (ℕ → Bool) → Assignment → List ℕ → Assignment → Type 0
HasNumbers fixed b indexes a = (i : ℕ) → IsTrue (among indexes i) → fixed i ≡ true → a i ≡ b i

-- where the assignments that fall on a place are those with the numbers of `b` at the fixed indexes, the word there is that of the last of them
abbrev pub ResultsEndAtLast : Type 0
ResultsEndAtLast =
    (extent : ℕ → ℕ) (indexes : List ℕ) (fixed : ℕ → Bool) (b a : Assignment) (f : Assignment → ℕ) (place word : List ℕ → ℕ) (old new : List ℕ) (k : ℕ)
    → IsMade (λ w xs. word xs) place (places (map extent indexes)) old new
    → IsTrue (is_distinct indexes) → ArePositive (map extent indexes) → ((i : ℕ) → IsTrue (among indexes i) → fixed i ≡ true → b i < extent i)
    → ((xs : List ℕ) → IsInside (map extent indexes) xs → word xs ≡ f (assigned a indexes xs))
    → ((xs : List ℕ) → IsInside (map extent indexes) xs → place xs ≡ k ↔ HasNumbers fixed b indexes (assigned a indexes xs))
    → k < length old → slice_index new k ≡ f (last_of_box extent fixed b indexes a)
