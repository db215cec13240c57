-- Laws of the blocks of a box.
use Rattle.std.specs.Prelude.{◌≡◌, ℕ, ◌+◌, ◌<◌, ◌*◌, ◌≤◌, List, [], ◌∷◌, length, slice_get, Some}
use Rattle.tce_space.specs.Box.{product, IsInside}
use Rattle.tce_space.specs.Tiling.{ArePositive, counts_along, divided}
use Rattle.tce_block.specs.Parts.{Part, IsIn, blocks}

-- an edge above 0 for each extent
pub record AreEdges (extents edges : List ℕ) : Type 0 where
  pub same_rank : length edges ≡ length extents
  pub positive : ArePositive edges

-- each place of the box is in exactly one block, and the blocks have no other places
pub record Covers (extents edges : List ℕ) : Type 0 where
  pub some : (xs : List ℕ) → IsInside extents xs → (k : ℕ) × (part : Part) × (slice_get (blocks extents edges) k ≡ Some part) × IsIn part xs
  pub one : (xs : List ℕ) (j k : ℕ) (p q : Part) → slice_get (blocks extents edges) j ≡ Some p → slice_get (blocks extents edges) k ≡ Some q → IsIn p xs → IsIn q xs → j ≡ k
  pub inside : (xs : List ℕ) (k : ℕ) (part : Part) → slice_get (blocks extents edges) k ≡ Some part → IsIn part xs → IsInside extents xs

abbrev pub BlocksCoverTheBox : Type 0
BlocksCoverTheBox = (extents edges : List ℕ) → AreEdges extents edges → Covers extents edges

-- no block crosses a multiple of an edge
abbrev pub BlocksStayBetweenEdges : Type 0
BlocksStayBetweenEdges =
    (extents edges : List ℕ) → AreEdges extents edges → (k : ℕ) (part : Part) → slice_get (blocks extents edges) k ≡ Some part
    → (xs ys : List ℕ) → IsIn part xs → IsIn part ys → divided edges xs ≡ divided edges ys

-- in each dimension the least number of edges that cover the extent
abbrev pub AreLeastCounts : List ℕ → List ℕ → List ℕ → Type 0
AreLeastCounts [] [] [] = Unit {0}
AreLeastCounts [] [] (c ∷ cs) = ⊥
AreLeastCounts [] (e ∷ es) cs = ⊥
AreLeastCounts (n ∷ ns) [] cs = ⊥
AreLeastCounts (n ∷ ns) (e ∷ es) [] = ⊥
AreLeastCounts (n ∷ ns) (e ∷ es) (c ∷ cs) = (n ≤ c * e) × ((t : ℕ) → n ≤ t * e → c ≤ t) × AreLeastCounts ns es cs

-- there are as many blocks as the product of these numbers
abbrev pub BlocksAreCounted : Type 0
BlocksAreCounted =
    (extents edges : List ℕ) → AreEdges extents edges
    → AreLeastCounts extents edges (counts_along extents edges) × (length (blocks extents edges) ≡ product (counts_along extents edges))

-- in each dimension a part has some number, no more than an edge, and ends inside the extent
abbrev pub AreParts : List ℕ → List ℕ → List ℕ → List ℕ → Type 0
AreParts [] [] [] [] = Unit {0}
AreParts (n ∷ ns) (e ∷ es) (f ∷ fs) (l ∷ ls) = (0 < l) × (l ≤ e) × (f + l ≤ n) × AreParts ns es fs ls
AreParts ns es fs ls = ⊥

-- every block has as many dimensions as the box, and is such a part in each
abbrev pub BlocksFitTheBox : Type 0
BlocksFitTheBox =
    (extents edges : List ℕ) → AreEdges extents edges → (k : ℕ) (part : Part) → slice_get (blocks extents edges) k ≡ Some part → AreParts extents edges part.from part.len
