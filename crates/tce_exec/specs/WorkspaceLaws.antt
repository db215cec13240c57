-- What holds of workspaces.
use Rattle.std.specs.Prelude.{◌≡◌, ℕ, ◌+◌, ◌<◌, ◌≤◌, ◌^◌, false, Option, List, slice_get, slice_index, Some}
use Rattle.std.specs.Option.{ForSome}
use Rattle.tce_outside.specs.Files.{Files}
use Rattle.tce_space.specs.Tiling.{tile_words, place_in_tile}
use Rattle.tce_cache.specs.declared.array.ArrayRef.{ArrayRef}
use Rattle.tce_cache.specs.Cache.{State as CacheState, IsCache, IsReady, IsSameOutsideFrames, OnlyWritableDiffers}
use Rattle.tce_cache.specs.Touch.{KeepsArrays, with_held}
use Rattle.tce_code.specs.Execution.{State}
use Rattle.tce_exec.specs.NodeStates.{current_cell}
use Rattle.tce_walk.specs.Laws.{HoldsWords}
use Rattle.tce_exec.specs.Workspace.{Workspace, element_of, setting_in, state_in}
use Rattle.tce_exec.specs.Prepared.{IsPrepared}
use Rattle.tce_exec.specs.Steps.{IsKept, IsContinued, IsRead, IsChanged}

-- the elements of the tensors stay in every outcome of a call
abbrev pub SettingsStay : Type 0
SettingsStay = (x y : Workspace) → IsCache x.cache → IsKept x y → setting_in y ≡ setting_in x

-- the current words of an array that is not written are the elements that its file has
abbrev pub OperandsAreAsFiled : Type 0
OperandsAreAsFiled =
    (c : CacheState) (files : Files) (words : List ℕ) (tensor : ℕ) (a : ArrayRef) (xs : List ℕ) → IsCache c → IsReady c files words
    → slice_get c.arrays tensor ≡ Some a → a.writable ≡ false → place_in_tile a.shape xs < tile_words a.shape
    → current_cell c files words tensor a.shape xs ≡ element_of c (Some files) tensor xs

-- where the words of a run are below 2 ^ 64, so are those in the places of all nodes
abbrev pub PlacesHoldWords : Type 0
PlacesHoldWords = (x : Workspace) → IsPrepared x → ((k : ℕ) → slice_index x.words k < 2 ^ 64) → ForSome (state_in x) (λ state. (v : ℕ) → HoldsWords v state)

-- A touch of a tile is a read, whatever it leaves of the frames: what `Cache::touch` promises of the cache, the words and the files makes it one.
pub record TouchesAreReads : Type 0 where
  pub kept : (x : Workspace) (words : List ℕ) (c : CacheState) (files : Option Files) → c ≡ with_held x.cache c.held (x.cache.touches + 1)
      → IsSameOutsideFrames x.cache x.words words → OnlyWritableDiffers x.cache x.files files → IsKept x (record x { words = words; cache = c; files = files })
  pub read : (x : Workspace) (words : List ℕ) (c : CacheState) (files : Option Files) → IsPrepared x → c ≡ with_held x.cache c.held (x.cache.touches + 1)
      → KeepsArrays x.cache c x.files files x.words words → IsCache c → IsSameOutsideFrames x.cache x.words words → OnlyWritableDiffers x.cache x.files files
      → IsRead 1 x (record x { words = words; cache = c; files = files })

-- what one call leaves and then another
pub record StepsFollow : Type 0 where
  pub kept : (x y z : Workspace) → IsKept x y → IsKept y z → IsKept x z
  pub continued : (x y z : Workspace) → IsKept x y → IsContinued x y → IsContinued y z → IsContinued x z
  pub read : (n m l : ℕ) (x y z : Workspace) → n + m ≤ l → IsKept x y → IsRead n x y → IsRead m y z → IsRead l x z
  pub changed : (n m l : ℕ) (f : State → State) (x y z : Workspace) → n + m ≤ l → IsKept x y → IsRead n x y → IsChanged f m y z → IsChanged f l x z
  pub twice : (n m l : ℕ) (f g : State → State) (x y z : Workspace) → n + m ≤ l → IsKept x y → IsChanged f n x y → IsChanged g m y z → IsChanged (λ state. g (f state)) l x z
