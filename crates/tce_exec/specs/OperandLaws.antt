-- What a word that is put, a slot that is cleared, and a tile that is touched do to the state of the nodes.
use Rattle.std.specs.Prelude.{◌≡◌, ◌⊎◌, ℕ, ◌+◌, ◌<◌, ◌≤◌, true, IsTrue, List, map, length, slice_index, slice_set, Some}
use Rattle.tce_outside.specs.Files.{Files}
use Rattle.tce_space.specs.Box.{IsInside}
use Rattle.tce_space.specs.IndexSet.{has}
use Rattle.tce_space.specs.Space.{extent_at}
use Rattle.tce_space.specs.Tiling.{Tiling, IsTiling, tile_number, place_in_tile}
use Rattle.tce_cache.specs.Held.{Held, look_up}
use Rattle.tce_cache.specs.Current.{place}
use Rattle.tce_cache.specs.Cache.{State as CacheState, IsCache, IsReady, IsArrayAt, HasRoom, IsSameOutsideFrames, layout}
use Rattle.tce_cache.specs.Touch.{IsSameArrays, AreShown, with_held}
use Rattle.tce_tree.specs.ContractionTree.{operations}
use Rattle.tce_tree.specs.Fusion.{kept_dims}
use Rattle.tce_tree.specs.Memory.{memory}
use Rattle.tce_tree.specs.Value.{Assignment}
use Rattle.tce_code.specs.Execution.{coordinates, with_word, cleared}
use Rattle.tce_layout.specs.Layout.{slot_at, IsLayout}
use Rattle.tce_exec.specs.Slots.{slot_word, IsSlotAt}
use Rattle.tce_exec.specs.NodeStates.{Places, root, root_dims, state_of, current_cell, IsResult}

-- the array has this number and this shape
abbrev pub HasShape : CacheState → ℕ → Tiling → Type 0
HasShape c array shape = IsArrayAt c.arrays array (λ a. a.shape ≡ shape)

-- the words of the nodes stand before the frames
abbrev pub StandsBefore : Places → CacheState → Type 0
StandsBefore p c = memory p.space p.tree p.fusion ≤ c.at

-- the numbers of the root's dims lie in their extents
abbrev pub IsRootAt : Places → Assignment → Type 0
IsRootAt p a = (i : ℕ) → IsTrue (has (root_dims p) i) → a i < extent_at p.space i

-- The word that a slot has at a node's place is the word of this place, and the current word of the result's element is that of the root's place.
pub record PlacesHaveTheirWords : Type 0 where
  pub node : (p : Places) (words : List ℕ) (cell : List ℕ → ℕ) (v : ℕ) (a : Assignment) → IsLayout p.space p.tree p.fusion p.slots → IsSlotAt p.space p.tree p.fusion v a
      → state_of p words cell v (coordinates (kept_dims p.tree p.fusion v) a) ≡ slice_index words (slot_word (slot_at p.slots v) a)
  pub root : (p : Places) (words : List ℕ) (cell : List ℕ → ℕ) (shape : Tiling) (a : Assignment) → 0 < operations p.tree → IsResult p shape → IsRootAt p a
      → state_of p words cell (root p) (coordinates (root_dims p) a) ≡ cell (map a p.result)

-- a touched tile shows the current words of its elements
abbrev pub TouchedTilesShowElements : Type 0
TouchedTilesShowElements =
    (c : CacheState) (files : Files) (old new : List ℕ) (array : ℕ) (shape : Tiling) (xs : List ℕ) (at : ℕ)
    → IsTiling shape → HasShape c array shape → IsInside shape.extents xs → AreShown c (Some files) old new array (tile_number shape xs) at
    → slice_index new (at + place_in_tile shape xs) ≡ current_cell c files old array shape xs

-- a word that is put at a node's place is the word of this place, and no other place changes
abbrev pub PutsChangeOnePlace : Type 0
PutsChangeOnePlace =
    (p : Places) (words : List ℕ) (cell : List ℕ → ℕ) (v : ℕ) (a : Assignment) (w : ℕ)
    → IsLayout p.space p.tree p.fusion p.slots → IsSlotAt p.space p.tree p.fusion v a → slot_word (slot_at p.slots v) a < length words
    → state_of p (slice_set words (slot_word (slot_at p.slots v) a) w) cell
    ≡ with_word (state_of p words cell) v (coordinates (kept_dims p.tree p.fusion v) a) w

-- where the words of a node's slot become 0, and no other word of a slot changes, the node's places are cleared
abbrev pub ClearedSlotsAreCleared : Type 0
ClearedSlotsAreCleared =
    (p : Places) (old new : List ℕ) (cell : List ℕ → ℕ) (v : ℕ)
    → IsLayout p.space p.tree p.fusion p.slots → v + 1 < operations p.tree
    → ((q : ℕ) → (slot_at p.slots v).offset ≤ q → q < (slot_at p.slots v).offset + (slot_at p.slots v).size → slice_index new q ≡ 0)
    → ((q : ℕ) → (q < (slot_at p.slots v).offset) ⊎ ((slot_at p.slots v).offset + (slot_at p.slots v).size ≤ q) → slice_index new q ≡ slice_index old q)
    → state_of p new cell ≡ cleared (state_of p old cell) v

-- what a word does that is put into the frame of a marked tile, at the place of an element of the result
pub record ChangesRootPlace (p : Places) (c : CacheState) (files : Files) (old new : List ℕ) (array : ℕ) (shape : Tiling) (a : Assignment) (w : ℕ) : Type 0 where
  pub state : state_of p new (current_cell c files new array shape)
      ≡ with_word (state_of p old (current_cell c files old array shape)) (root p) (coordinates (root_dims p) a) w
  pub ready : IsReady c files new

-- it is the word of the root's place, no other place changes, and the cache stays ready
abbrev pub TilePutsChangeOnePlace : Type 0
TilePutsChangeOnePlace =
    (p : Places) (c : CacheState) (files : Files) (words : List ℕ) (array : ℕ) (shape : Tiling) (a : Assignment) (h : Held) (w : ℕ)
    → IsLayout p.space p.tree p.fusion p.slots → 0 < operations p.tree → IsResult p shape → IsTiling shape → IsRootAt p a
    → IsCache c → IsReady c files words → HasRoom c words → StandsBefore p c → HasShape c array shape
    → look_up c.held array (tile_number shape (map a p.result)) ≡ Some h → h.marked ≡ true
    → ChangesRootPlace p c files words (slice_set words (place (layout c) h.frame + place_in_tile shape (map a p.result)) w) array shape a w

-- where current words and the words before the frames stay, the state stays
abbrev pub TouchesKeepStates : Type 0
TouchesKeepStates =
    (p : Places) (c : CacheState) (held : List Held) (touches : ℕ) (before after : Files) (old new : List ℕ) (array : ℕ) (shape : Tiling)
    → IsLayout p.space p.tree p.fusion p.slots → IsResult p shape → IsTiling shape → StandsBefore p c → HasShape c array shape
    → IsSameArrays c (with_held c held touches) before after old new → IsSameOutsideFrames c old new
    → state_of p new (current_cell (with_held c held touches) after new array shape) ≡ state_of p old (current_cell c before old array shape)
