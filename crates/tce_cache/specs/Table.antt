-- What a table of frames holds, and how its links say so.
use Rattle.std.specs.Prelude.{◌≡◌, ℕ, zero, suc, ◌+◌, ◌*◌, ◌/◌, ◌%◌, ◌^◌, ◌<◌, ◌≤◌, false, bit_and, List, [], ◌∷◌, length, slice_index, slice_index_or}
use Rattle.tce_cache.specs.Held.{Held}
use Rattle.tce_cache.specs.Ring.{Links, AreRings, AreBelow, AreDistinct, IsIn, IsChain}
use Rattle.tce_cache.specs.declared.table.Frame.{Frame}
use Rattle.tce_cache.specs.declared.table.Spread.{Spread}

-- a table of so many frames, for so many arrays, and the tiles that are held, the one used last first
pub record Holding : Type 0 where
  pub frames : ℕ
  pub arrays : ℕ
  pub held : List Held

-- the table that holds no tile
abbrev pub holding_none : ℕ → ℕ → Holding
holding_none frames arrays = record { frames = frames; arrays = arrays; held = [] }

-- what a frame with this number holds
abbrev pub held_by : ℕ → Frame → Held
held_by frame f = record { array = f.array; tile = f.tile; frame = frame; marked = f.marked }

-- the first n nodes after x
abbrev pub walk : List ℕ → ℕ → ℕ → List ℕ
walk after x zero = []
walk after x (suc n) = slice_index after x ∷ walk after (slice_index after x) n

abbrev pub frame_at : List Frame → ℕ → Frame
frame_at frames f = slice_index_or frames f (record { array = 0; tile = 0; marked = false })

-- what a frame holds
abbrev pub entry : List Frame → ℕ → Held
entry frames f = record { array = (frame_at frames f).array; tile = (frame_at frames f).tile; frame = f; marked = (frame_at frames f).marked }

-- the bucket of a tile
abbrev pub bucket_of : Spread → ℕ → ℕ → ℕ
bucket_of s array tile = bit_and ((slice_index s.firsts.items array + tile) % 2 ^ 64 * s.factor % 2 ^ 64 / 2 ^ s.shift) s.mask

abbrev pub bucket_at : Spread → List Frame → ℕ → ℕ
bucket_at s frames f = bucket_of s (frame_at frames f).array (frame_at frames f).tile

-- the frames that hold tiles, the one used last first
abbrev pub order_of : List Frame → ℕ → Links → List ℕ
order_of frames held order = walk order.after (length frames) held

-- the links say which frames hold tiles, and each tile is found in the ring of its bucket
pub record IsTable (frames : List Frame) (held : ℕ) (order buckets : Links) (spread : Spread) : Type 0 where
  pub held_le : held ≤ length frames
  pub order_len : length order.after ≡ length frames + 1
  pub order_ring : AreRings order (length frames) 1 (λ _. order_of frames held order)
  pub order_below : AreBelow held (order_of frames held order)
  pub order_all : (f : ℕ) → f < held → IsIn f (order_of frames held order)
  pub buckets_len : length buckets.after ≡ length frames + (spread.mask + 1)
  pub room : length frames + (spread.mask + 1) < 2 ^ 64
  pub rings : ℕ → List ℕ
  pub bucket_rings : AreRings buckets (length frames) (spread.mask + 1) rings
  pub home : (f : ℕ) → f < held → IsIn f (rings (bucket_at spread frames f))
  pub ringed : (r f : ℕ) → r < spread.mask + 1 → IsIn f (rings r) → f < held
  pub known : (f : ℕ) → f < held → (frame_at frames f).array < length spread.firsts.items
  pub distinct : (f g : ℕ) → f < held → g < held → (frame_at frames f).array ≡ (frame_at frames g).array → (frame_at frames f).tile ≡ (frame_at frames g).tile → f ≡ g

abbrev pub IsTileAt : List Frame → ℕ → ℕ → ℕ → Type 0
IsTileAt frames array tile f = ((frame_at frames f).array ≡ array) × ((frame_at frames f).tile ≡ tile)

-- what is left of a bucket's ring, when a tile is looked for
pub record IsLeft (frames : List Frame) (held array tile : ℕ) (after : List ℕ) (node end : ℕ) : Type 0 where
  pub rest : List ℕ
  pub chain : IsChain after node rest end
  pub below : AreBelow held rest
  pub distinct : AreDistinct rest
  pub all : (f : ℕ) → f < held → IsTileAt frames array tile f → IsIn f rest
