-- What the windows of slots and of tiles show, and what stays where words change at their places.
use Rattle.std.specs.Prelude.{◌≡◌, ◌≢◌, ℕ, ◌+◌, ◌*◌, ◌<◌, ◌≤◌, true, List, map, length, slice_index, Some}
use Rattle.tce_outside.specs.Files.{Files}
use Rattle.tce_space.specs.Box.{IsInside}
use Rattle.tce_space.specs.Space.{extent_at}
use Rattle.tce_space.specs.Tiling.{Tiling, IsTiling, tile_number, place_in_tile}
use Rattle.tce_cache.specs.Held.{Held, look_up}
use Rattle.tce_cache.specs.Current.{place, AreOther}
use Rattle.tce_cache.specs.Cache.{State as CacheState, IsCache, IsReady, HasRoom, IsSameOutsideFrames, layout, current_word}
use Rattle.tce_tree.specs.ContractionTree.{operations}
use Rattle.tce_tree.specs.Fusion.{kept_dims}
use Rattle.tce_tree.specs.Memory.{memory}
use Rattle.tce_tree.specs.Value.{Assignment}
use Rattle.tce_code.specs.Execution.{Setting, State, coordinates}
use Rattle.tce_layout.specs.Layout.{slot_at, IsLayout}
use Rattle.tce_walk.specs.TailLaws.{dims_at}
use Rattle.tce_exec.specs.NodeStates.{Places, root, root_dims, state_of, current_cell, IsResult}
use Rattle.tce_exec.specs.OperandLaws.{HasShape, StandsBefore}
use Rattle.tce_exec.specs.Turns.{Turns, IsTurn}
use Rattle.tce_exec.specs.LoopWindows.{stands_at, ShowsWords, ShowsNode, DifferOnlyAt}
use Rattle.tce_exec.specs.declared.window.Window.{Window}
use Rattle.tce_exec.specs.OperandWindows.{IsSlotWindow, IsTileWindow}
use Rattle.tce_exec.specs.TilesOfBlocks.{StayBetweenEdges, StayInExtents, HasIndexes}

-- the state that words stand for, where the result is this array of the cache
abbrev pub view_of : Places → CacheState → Files → ℕ → Tiling → List ℕ → State
view_of p c files array shape = λ words. state_of p words (current_cell c files words array shape)

-- the setting has the tree and the fusion of the places
pub record IsSettingOf (p : Places) (s : Setting) : Type 0 where
  pub tree : s.tree ≡ p.tree
  pub fusion : s.fusion ≡ p.fusion

-- the slots are those of a layout and stand before the frames, and these stand among so many words
pub record IsLaidOut (p : Places) (c : CacheState) (count : ℕ) : Type 0 where
  pub slots : IsLayout p.space p.tree p.fusion p.slots
  pub before : StandsBefore p c
  pub room : c.at + c.frames * c.frame_words ≤ count

-- node `v` is not the root, the turns stay in the extents of the dims that it keeps, and the window is that of its slot
pub record IsSlotOf (p : Places) (t : Turns) (v : ℕ) (w : Window) : Type 0 where
  pub inner : v + 1 < operations p.tree
  pub inside : StayInExtents t (extent_at p.space) (kept_dims p.tree p.fusion v)
  pub window : IsSlotWindow (slot_at p.slots v) t.first w

-- a frame holds the tile of an array in which the elements of the turns lie, and the window is that of this tile
pub record IsTileOf (c : CacheState) (t : Turns) (edge : ℕ → ℕ) (array : ℕ) (shape : Tiling) (indexes : List ℕ) (h : Held) (w : Window) : Type 0 where
  pub tiling : IsTiling shape
  pub array_is : HasShape c array shape
  pub indexes_are : HasIndexes shape edge indexes
  pub between : StayBetweenEdges t edge
  pub held : look_up c.held array (tile_number shape (map t.first indexes)) ≡ Some h
  pub window : IsTileWindow shape indexes t.first (place (layout c) h.frame) w

-- the window of an inner node's slot shows the places of the node
abbrev pub SlotsShowNodes : Type 0
SlotsShowNodes =
    (p : Places) (c : CacheState) (files : Files) (array : ℕ) (shape : Tiling) (s : Setting) (t : Turns) (v : ℕ) (w : Window) (count : ℕ)
    → IsSettingOf p s → IsLaidOut p c count → IsSlotOf p t v w → ShowsNode s t v w count (view_of p c files array shape)

-- and so its words are those of the node as an operand
abbrev pub SlotsShowWords : Type 0
SlotsShowWords =
    (p : Places) (c : CacheState) (files : Files) (array : ℕ) (shape : Tiling) (s : Setting) (t : Turns) (v : ℕ) (w : Window) (words : List ℕ)
    → IsSettingOf p s → IsLaidOut p c (length words) → IsSlotOf p t v w
    → ShowsWords t w words (λ b. view_of p c files array shape words v (coordinates (dims_at s v) b))

-- the window of a tensor's tile that a frame holds shows the current words of its elements
abbrev pub TilesShowWords : Type 0
TilesShowWords =
    (c : CacheState) (files : Files) (words : List ℕ) (t : Turns) (edge : ℕ → ℕ) (array : ℕ) (shape : Tiling) (indexes : List ℕ) (h : Held) (w : Window)
    → IsCache c → HasRoom c words → IsTileOf c t edge array shape indexes h w
    → ShowsWords t w words (λ b. current_cell c files words array shape (map b indexes))

-- the window of the result's tile that a frame holds shows the places of the root
abbrev pub TilesShowNodes : Type 0
TilesShowNodes =
    (p : Places) (c : CacheState) (files : Files) (array : ℕ) (shape : Tiling) (s : Setting) (t : Turns) (edge : ℕ → ℕ) (h : Held) (w : Window) (count : ℕ)
    → IsSettingOf p s → IsLaidOut p c count → IsCache c → 0 < operations p.tree → IsResult p shape → StayInExtents t (extent_at p.space) (root_dims p)
    → IsTileOf c t edge array shape p.result h w → ShowsNode s t (root p) w count (view_of p c files array shape)

-- ---- windows that are apart

-- no word of a turn in one window is one of a turn in the other
abbrev pub StandApart : Turns → Window → Window → Type 0
StandApart t w other = (b c : Assignment) → IsTurn t b → IsTurn t c → stands_at w t.first b ≢ stands_at other t.first c

-- the windows of two slots, of a slot and a tile, and of two tiles
pub record WindowsAreApart : Type 0 where
  pub slots : (p : Places) (t : Turns) (u v : ℕ) (w other : Window) → IsLayout p.space p.tree p.fusion p.slots → IsSlotOf p t u w → IsSlotOf p t v other → u ≢ v → StandApart t w other
  pub slot_and_tile : (p : Places) (c : CacheState) (t : Turns) (edge : ℕ → ℕ) (v array : ℕ) (shape : Tiling) (indexes : List ℕ) (h : Held) (w other : Window)
      → IsLayout p.space p.tree p.fusion p.slots → StandsBefore p c → IsSlotOf p t v w → IsTileOf c t edge array shape indexes h other → StandApart t w other
  pub tiles : (c : CacheState) (t : Turns) (edge : ℕ → ℕ) (array array' : ℕ) (shape shape' : Tiling) (indexes indexes' : List ℕ) (h h' : Held) (w other : Window) → IsCache c
      → IsTileOf c t edge array shape indexes h w → IsTileOf c t edge array' shape' indexes' h' other
      → AreOther array (tile_number shape (map t.first indexes)) array' (tile_number shape' (map t.first indexes')) → StandApart t w other

-- ---- words that change

-- where words change in a slot, the cache stays ready, no current word changes, and no word behind the slots
pub record SlotsChangeAlone (p : Places) (c : CacheState) (files : Files) (old new : List ℕ) : Type 0 where
  pub ready : IsReady c files old → IsReady c files new
  pub current : (array tile k : ℕ) → current_word c files new array tile k ≡ current_word c files old array tile k
  pub behind : (q : ℕ) → memory p.space p.tree p.fusion ≤ q → slice_index new q ≡ slice_index old q

-- where words change in a marked tile, the cache stays ready, and no current word changes but those of the turns' elements: no element of another array, and
-- no word outside the frames
pub record TilesChangeAlone (c : CacheState) (files : Files) (t : Turns) (array : ℕ) (shape : Tiling) (indexes old new : List ℕ) : Type 0 where
  pub ready : IsReady c files old → IsReady c files new
  pub current : (b u k : ℕ) → k < c.frame_words
      → ((d : Assignment) → IsTurn t d → b ≡ array → tile_number shape (map d indexes) ≡ u → place_in_tile shape (map d indexes) ≡ k → ⊥)
      → current_word c files new b u k ≡ current_word c files old b u k
  pub cells : (b : ℕ) (other : Tiling) (xs : List ℕ) → b ≢ array → IsTiling other → HasShape c b other → IsInside other.extents xs
      → current_cell c files new b other xs ≡ current_cell c files old b other xs
  pub outside : IsSameOutsideFrames c old new

pub record ChangesKeepCells : Type 0 where
  pub slots : (p : Places) (c : CacheState) (files : Files) (t : Turns) (v : ℕ) (w : Window) (old new : List ℕ)
      → IsLayout p.space p.tree p.fusion p.slots → StandsBefore p c → IsSlotOf p t v w → DifferOnlyAt t w old new → SlotsChangeAlone p c files old new
  pub tiles : (c : CacheState) (files : Files) (t : Turns) (edge : ℕ → ℕ) (array : ℕ) (shape : Tiling) (indexes : List ℕ) (h : Held) (w : Window) (old new : List ℕ)
      → IsCache c → IsTileOf c t edge array shape indexes h w → h.marked ≡ true → length new ≡ length old → DifferOnlyAt t w old new
      → TilesChangeAlone c files t array shape indexes old new
