-- What holds of all stored places.
use Rattle.std.specs.Prelude.{◌≡◌, ℕ, ◌<◌, ◌≤◌, List}
use Rattle.tce_space.specs.Box.{product, IsInside}
use Rattle.tce_sym.specs.declared.symmetry.Symmetry.{Symmetry}
use Rattle.tce_sym.specs.Storage.{AreRight, IsPair, at_first, at_second, stored_place, stored_count}

-- the element is stored
pub record IsStoredAt (extents : List ℕ) (s : Symmetry) (xs : List ℕ) : Type 0 where
  pub inside : IsInside extents xs
  pub pair : IsPair s.negated (at_first s xs) (at_second s xs)

-- different stored elements have different places, every place below their number is one, and they are no more than the elements
pub record PlacesAreTheirs (extents : List ℕ) (s : Symmetry) : Type 0 where
  pub apart : (xs ys : List ℕ) → IsStoredAt extents s xs → IsStoredAt extents s ys → stored_place extents s xs ≡ stored_place extents s ys → xs ≡ ys
  pub within : (xs : List ℕ) → IsStoredAt extents s xs → stored_place extents s xs < stored_count extents s
  pub every : (k : ℕ) → k < stored_count extents s → (xs : List ℕ) × IsStoredAt extents s xs × (stored_place extents s xs ≡ k)
  pub few : stored_count extents s ≤ product extents

abbrev pub StoredPlacesAreTheirs : Type 0
StoredPlacesAreTheirs = (extents : List ℕ) (s : Symmetry) → AreRight extents s → PlacesAreTheirs extents s
