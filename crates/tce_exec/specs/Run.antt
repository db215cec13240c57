-- What a run of loop code asks, and what it leaves.
use Rattle.std.specs.Prelude.{◌≡◌, ℕ, ◌+◌, ◌*◌, ◌<◌, ◌≤◌, List, Option}
use Rattle.std.specs.Option.{ForSome, option_map}
use Rattle.tce_outside.specs.Files.{Files}
use Rattle.tce_space.specs.Box.{IsInside}
use Rattle.tce_space.specs.Space.{IndexSpace}
use Rattle.tce_space.specs.Tiling.{tiles, tile_words}
use Rattle.tce_array.specs.Files.{IsPadding}
use Rattle.tce_cache.specs.Cache.{State as CacheState, current_word}
use Rattle.tce_tree.specs.ContractionTree.{ContractionTree}
use Rattle.tce_tree.specs.Value.{Elements, value, assignment}
use Rattle.tce_tree.specs.declared.expr.Leaf.{Leaf}
use Rattle.tce_code.specs.Execution.{exec}
use Rattle.tce_code.specs.Program.{program_of}
use Rattle.tce_code.specs.declared.op.Op.{Op}
use Rattle.tce_layout.specs.declared.slot.Slot.{Slot}
use Rattle.tce_exec.specs.NodeStates.{current_cell}
use Rattle.tce_walk.specs.Touches.{touch_bound}
use Rattle.tce_walk.specs.Run.{zeros}
use Rattle.tce_exec.specs.Workspace.{Workspace, setting_in, state_in, result_shape}
use Rattle.tce_exec.specs.Prepared.{IsPrepared}
use Rattle.tce_exec.specs.Steps.{IsContinued}

-- what a run works on, by its parts
abbrev pub workspace_of : IndexSpace → ContractionTree → List ℕ → List Slot → Leaf → List ℕ → CacheState → Option Files → Workspace
workspace_of space tree fusion slots result words cache files = record {
  places = record { space = space; tree = tree; fusion = fusion; slots = slots; result = result.indexes.items };
  tensor = result.tensor;
  words = words;
  cache = cache;
  files = files;
}

-- the result's current words are 0
abbrev pub IsZero : Workspace → Type 0
IsZero w =
    ForSome w.files (λ files. (tile k : ℕ) → tile < tiles (result_shape w) → k < tile_words (result_shape w) → current_word w.cache files w.words w.tensor tile k ≡ 0)

-- the result's current elements are the values of the tree, and its other words are 0
pub record HasValues (w : Workspace) (e : Elements) (files : Files) : Type 0 where
  pub values : (coords : List ℕ) → IsInside (result_shape w).extents coords
      → current_cell w.cache files w.words w.tensor (result_shape w) coords ≡ value e w.places.tree (assignment w.places.result coords)
  pub padding : (tile k : ℕ) → tile < tiles (result_shape w) → k < tile_words (result_shape w) → IsPadding (result_shape w) (tile_words (result_shape w) * tile + k)
      → current_word w.cache files w.words w.tensor tile k ≡ 0

-- What a run leaves that succeeds: the values of the tree over the elements that were there, in each slot what the code's meaning leaves, no more touches than the
-- bound of the code, and all as ready as before.
pub record IsRun (before after : Workspace) (ops : List Op) : Type 0 where
  pub prepared : IsPrepared after
  pub values : ForSome after.files (λ files. HasValues after (setting_in before).elements files)
  pub state : state_in after ≡ option_map (λ state. exec (setting_in before) (program_of ops) state zeros) (state_in before)
  pub touches : after.cache.touches ≤ before.cache.touches + touch_bound before.places.space before.places.tree (program_of ops)
  pub continued : IsContinued before after
