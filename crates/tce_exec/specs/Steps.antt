-- What the calls of a run leave of what it works on.
use Rattle.std.specs.Prelude.{◌≡◌, ◌⊎◌, ℕ, ◌+◌, ◌*◌, ◌<◌, ◌≤◌, List, length, slice_get, slice_index, Some}
use Rattle.std.specs.Option.{ForSome, option_map}
use Rattle.tce_outside.specs.Files.{file}
use Rattle.tce_space.specs.Box.{IsInside}
use Rattle.tce_space.specs.Tiling.{tile_words, tile_number, place_in_tile}
use Rattle.tce_array.specs.Files.{AreBytes}
use Rattle.tce_cache.specs.declared.array.ArrayRef.{ArrayRef}
use Rattle.tce_cache.specs.Cache.{OnlyWritableDiffers, current_word}
use Rattle.tce_cache.specs.Transfer.{contents}
use Rattle.tce_cache.specs.Touch.{front, with_held}
use Rattle.tce_code.specs.Execution.{State}
use Rattle.tce_tree.specs.Memory.{memory}
use Rattle.tce_exec.specs.Workspace.{Workspace, state_in, result_shape}
use Rattle.tce_exec.specs.Prepared.{IsPrepared}

-- What stays in every outcome: the places, the arrays, the frames, the words outside the slots and the frames, and all files but that of the result.
pub record IsKept (before after : Workspace) : Type 0 where
  pub places : after.places ≡ before.places
  pub tensor : after.tensor ≡ before.tensor
  pub cache : after.cache ≡ with_held before.cache after.cache.held after.cache.touches
  pub same_length : length after.words ≡ length before.words
  pub outside : (p : ℕ) → memory before.places.space before.places.tree before.places.fusion ≤ p
      → (p < before.cache.at) ⊎ (before.cache.at + before.cache.frames * before.cache.frame_words ≤ p) → slice_index after.words p ≡ slice_index before.words p
  pub files : OnlyWritableDiffers before.cache before.files after.files

-- a word of a tile of the result that is no element
abbrev pub IsPadding : Workspace → ℕ → ℕ → Type 0
IsPadding w tile k =
    (k < tile_words (result_shape w))
    × ((xs : List ℕ) → IsInside (result_shape w).extents xs → tile_number (result_shape w) xs ≡ tile → place_in_tile (result_shape w) xs ≡ k → ⊥)

-- What stays besides where a call succeeds: each file's length and head, that its numbers are bytes, and the current words of the result that are no elements.
pub record IsContinued (before after : Workspace) : Type 0 where
  pub fronts : ForSome before.files (λ fs. ForSome after.files (λ gs. (i : ℕ) (a : ArrayRef) → slice_get before.cache.arrays i ≡ Some a
      → option_map (front a) (file gs a.file.bytes) ≡ option_map (front a) (file fs a.file.bytes)))
  pub bytes : ForSome before.files (λ fs. ForSome after.files (λ gs. (i : ℕ) (a : ArrayRef) → slice_get before.cache.arrays i ≡ Some a → AreBytes (contents a fs) → AreBytes (contents a gs)))
  pub padding : ForSome before.files (λ fs. ForSome after.files (λ gs. (tile k : ℕ) → IsPadding before tile k
      → current_word after.cache gs after.words before.tensor tile k ≡ current_word before.cache fs before.words before.tensor tile k))

-- at most so many touches, after which all places have their words and the next call can come
pub record IsRead (touches : ℕ) (before after : Workspace) : Type 0 where
  pub prepared : IsPrepared after
  pub state : state_in after ≡ state_in before
  pub few : after.cache.touches ≤ before.cache.touches + touches
  pub continued : IsContinued before after

-- the same, but that the state is changed
pub record IsChanged (change : State → State) (touches : ℕ) (before after : Workspace) : Type 0 where
  pub prepared : IsPrepared after
  pub state : state_in after ≡ option_map change (state_in before)
  pub few : after.cache.touches ≤ before.cache.touches + touches
  pub continued : IsContinued before after
