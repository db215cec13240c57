-- Where elements stand that are touched.
use Rattle.std.specs.Prelude.{◌≡◌, ℕ, ◌+◌, ◌<◌, Bool, List, map, slice_index}
use Rattle.tce_space.specs.Tiling.{Tiling, tile_words, tiles, tile_number, place_in_tile}
use Rattle.tce_cache.specs.declared.array.ArrayRef.{ArrayRef}
use Rattle.tce_cache.specs.Cache.{State as CacheState, IsArrayAt}
use Rattle.tce_cache.specs.Touch.{IsTouched}
use Rattle.tce_tree.specs.declared.expr.Leaf.{Leaf}

-- the tile of an element, and its place there
pub record IsElementAt (shape : Tiling) (xs : List ℕ) (tile place : ℕ) : Type 0 where
  pub tile_is : tile ≡ tile_number shape xs
  pub place_is : place ≡ place_in_tile shape xs
  pub exists : tile < tiles shape
  pub within : place < tile_words shape

-- the element's tile was touched, and its word stands at this place
pub record IsElementTouched (old new : CacheState) (array : ℕ) (shape : Tiling) (xs : List ℕ) (write : Bool) (at : ℕ) : Type 0 where
  pub first : ℕ
  pub touched : IsTouched old new array (tile_number shape xs) write first
  pub at_is : at ≡ first + place_in_tile shape xs
  pub within : place_in_tile shape xs < tile_words shape

-- the coordinates of a reference to a tensor, where the indexes have these numbers
abbrev pub coordinates_at : Leaf → List ℕ → List ℕ
coordinates_at l numbers = map (slice_index numbers) l.indexes.items

-- of the array of the tensor to which a reference leads
abbrev pub InArray : CacheState → Leaf → (ArrayRef → Type 0) → Type 0
InArray c l P = IsArrayAt c.arrays l.tensor P
