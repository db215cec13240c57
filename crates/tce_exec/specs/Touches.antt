-- The tiles that were touched last.
use Rattle.std.specs.Prelude.{◌≡◌, ℕ, ◌+◌, ◌<◌, ◌≤◌, Bool, true, IsTrue, slice_get, Some}
use Rattle.tce_cache.specs.Held.{Held, look_up}
use Rattle.tce_cache.specs.Current.{place}
use Rattle.tce_cache.specs.Cache.{State as CacheState, IsCache, layout}
use Rattle.tce_cache.specs.Touch.{IsTouched}

-- the frame whose first word stands at this place holds the tile, which is marked where `marked` says so
pub record IsHeldAt (c : CacheState) (array tile first : ℕ) (marked : Bool) : Type 0 where
  pub held : Held
  pub found : look_up c.held array tile ≡ Some held
  pub place_is : first ≡ place (layout c) held.frame
  pub marked_is : IsTrue marked → held.marked ≡ true

-- it is among the `n` tiles that were touched last
pub record IsAmongLast (n : ℕ) (c : CacheState) (array tile first : ℕ) (marked : Bool) : Type 0 where
  pub at : ℕ
  pub low : at < n
  pub held : Held
  pub stands : slice_get c.held at ≡ Some held
  pub array_is : held.array ≡ array
  pub tile_is : held.tile ≡ tile
  pub place_is : first ≡ place (layout c) held.frame
  pub marked_is : IsTrue marked → held.marked ≡ true

-- A touched tile is the last one, in the frame at the answered place. The last ones stay there, with their marks, whatever is touched next, as long as there
-- is a frame for each of them, and each of the last ones is held.
pub record TouchedTilesStay : Type 0 where
  pub last : (old new : CacheState) (array tile : ℕ) (write : Bool) (answer : ℕ) → IsCache old → IsTouched old new array tile write answer
      → IsAmongLast 1 new array tile answer write
  pub stay : (n : ℕ) (old new : CacheState) (array tile first : ℕ) (marked : Bool) (other_array other_tile : ℕ) (write : Bool) (answer : ℕ) → n + 1 ≤ old.frames → IsCache old
      → IsAmongLast n old array tile first marked → IsTouched old new other_array other_tile write answer → IsAmongLast (n + 1) new array tile first marked
  pub held : (n : ℕ) (c : CacheState) (array tile first : ℕ) (marked : Bool) → IsCache c → IsAmongLast n c array tile first marked → IsHeldAt c array tile first marked
