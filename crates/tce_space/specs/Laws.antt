-- Laws of index sets, volumes and boxes.
use Rattle.std.specs.Prelude.{◌≡◌, ℕ, ◌<◌, ◌≤◌, ◌↔◌, IsTrue, List, [], length, slice_index_or, Contains}
use Rattle.std.specs.List.Sorted.{IsStrictlyIncreasing}
use Rattle.tce_space.specs.IndexSet.{IsIndexSet, IsWithin, has, members, volume}
use Rattle.tce_space.specs.Box.{product, places, place, IsInside}

-- sets with the same members are the same, and the members in order are just these, each once
pub record SetsAreTheirMembers : Type 0 where
  pub same : (a b : ℕ) → IsIndexSet a → IsIndexSet b → ((i : ℕ) → IsTrue (has a i) ↔ IsTrue (has b i)) → a ≡ b
  pub listed : (a i : ℕ) → IsIndexSet a → Contains (members a) i ↔ IsTrue (has a i)
  pub ascend : (a : ℕ) → IsStrictlyIncreasing (members a)

-- the volume of a part is no larger, where no extent is 0
abbrev pub VolumesGrow : Type 0
VolumesGrow =
    (extent : ℕ → ℕ) (a b : ℕ) → IsWithin a b → ((i : ℕ) → IsTrue (has b i) → 0 < extent i) → volume extent a ≤ volume extent b

-- the place of an element is a number below the product of the extents, different elements have different places,
-- and the places in order are the elements, each once
pub record PlacesAreInOrder : Type 0 where
  pub count : (ns : List ℕ) → length (places ns) ≡ product ns
  pub within : (ns xs : List ℕ) → IsInside ns xs → place ns xs < product ns
  pub at : (ns xs : List ℕ) → IsInside ns xs → slice_index_or (places ns) (place ns xs) [] ≡ xs
  pub apart : (ns xs ys : List ℕ) → IsInside ns xs → IsInside ns ys → place ns xs ≡ place ns ys → xs ≡ ys
  pub every : (ns : List ℕ) (p : ℕ) → p < product ns → IsInside ns (slice_index_or (places ns) p []) × (place ns (slice_index_or (places ns) p []) ≡ p)
