-- The windows of slots and of tiles.
use Rattle.std.specs.Prelude.{◌≡◌, ℕ, ◌+◌, ◌<◌, ◌==◌, if◌then◌else◌, List, [], ◌∷◌, map, length, slice_index}
use Rattle.tce_space.specs.Limits.{max_indexes}
use Rattle.tce_space.specs.Box.{product}
use Rattle.tce_space.specs.Tiling.{Tiling, place_in_tile}
use Rattle.tce_tree.specs.Value.{Assignment}
use Rattle.tce_layout.specs.declared.slot.Slot.{Slot}
use Rattle.tce_exec.specs.Slots.{slot_word}
use Rattle.tce_exec.specs.declared.window.Window.{Window}

-- the window of a slot, where `first` are the numbers of the first turn
pub record IsSlotWindow (slot : Slot) (first : Assignment) (w : Window) : Type 0 where
  pub first_is : w.first ≡ slot_word slot first
  pub steps_are : w.steps ≡ slot.steps

-- how far apart in a tile of these edges the words stand whose numbers of index `i` differ by one: each dimension with this index
-- adds the product of the edges behind it
abbrev pub tile_step : List ℕ → List ℕ → ℕ → ℕ
tile_step [] indexes i = 0
tile_step (e ∷ edges) [] i = 0
tile_step (e ∷ edges) (x ∷ indexes) i = (if x == i then product edges else 0) + tile_step edges indexes i

-- a step for each index
pub record AreTileSteps (edges indexes steps : List ℕ) : Type 0 where
  pub each : length steps ≡ max_indexes
  pub steps_are : (i : ℕ) → i < max_indexes → slice_index steps i ≡ tile_step edges indexes i

-- the window of a tile whose first word stands at `at`
pub record IsTileWindow (shape : Tiling) (indexes : List ℕ) (first : Assignment) (at : ℕ) (w : Window) : Type 0 where
  pub first_is : w.first ≡ at + place_in_tile shape (map first indexes)
  pub steps_are : AreTileSteps shape.edges indexes w.steps
