-- A cache of the tiles of arrays: what it holds, and what the current words of its arrays are.
use Rattle.std.specs.Prelude.{◌≡◌, ◌≢◌, ◌⊎◌, ℕ, ◌+◌, ◌*◌, ◌<◌, ◌≤◌, true, List, [], length, slice_get, slice_index, Option, is_some, Some, None}
use Rattle.std.specs.Option.{IsSomeAnd, ForSome}
use Rattle.tce_space.specs.Limits.{max_tensors}
use Rattle.tce_outside.specs.Files.{Files, file, bytes_before}
use Rattle.tce_space.specs.Tiling.{tile_words, tiles}
use Rattle.tce_array.specs.declared.form.Form.TheVariants.{One}
use Rattle.tce_cache.specs.Held.{Held, look_up, AreApart}
use Rattle.tce_cache.specs.Current.{Layout, current, AreClean}
use Rattle.tce_cache.specs.declared.array.ArrayRef.{ArrayRef}
use Rattle.tce_cache.specs.Transfer.{HasFile, word_in_file}

-- the arrays and frames with which a cache was made, the tiles that it holds, the one touched last first, and how often it was touched
pub record State : Type 0 where
  pub arrays : List ArrayRef
  pub at : ℕ
  pub frames : ℕ
  pub frame_words : ℕ
  pub held : List Held
  pub touches : ℕ

-- one that holds no tile
abbrev pub empty_cache : List ArrayRef → ℕ → ℕ → ℕ → State
empty_cache arrays at frames frame_words = record { arrays = arrays; at = at; frames = frames; frame_words = frame_words; held = []; touches = 0 }

-- the array has this number
abbrev pub IsArrayAt : List ArrayRef → ℕ → (ArrayRef → Type 0) → Type 0
IsArrayAt arrays array P = IsSomeAnd (slice_get arrays array) P

-- the array is one of the cache's, and has the tile
abbrev pub Exists : State → ℕ → ℕ → Type 0
Exists c array tile = IsArrayAt c.arrays array (λ a. tile < tiles a.shape)

abbrev pub IsWritable : State → ℕ → Type 0
IsWritable c array = IsArrayAt c.arrays array (λ a. a.writable ≡ true)

-- what arrays a cache can have: few, in different files, with tiles that fit a frame, and at most one to be written, which is of the first form
pub record AreArrays (arrays : List ArrayRef) (frame_words : ℕ) : Type 0 where
  pub few : length arrays ≤ max_tensors
  pub different : (i j : ℕ) (a b : ArrayRef) → slice_get arrays i ≡ Some a → slice_get arrays j ≡ Some b → a.file.bytes ≡ b.file.bytes → i ≡ j
  pub fit : (i : ℕ) (a : ArrayRef) → slice_get arrays i ≡ Some a → tile_words a.shape ≤ frame_words
  pub writable : (i j : ℕ) (a b : ArrayRef) → slice_get arrays i ≡ Some a → slice_get arrays j ≡ Some b → a.writable ≡ true → b.writable ≡ true → i ≡ j
  pub form : (i : ℕ) (a : ArrayRef) → slice_get arrays i ≡ Some a → a.writable ≡ true → a.form ≡ One

-- the words of a tile, by the number of its array
abbrev pub words_of_tile : Option ArrayRef → ℕ
words_of_tile None = 0
words_of_tile (Some a) = tile_words a.shape

abbrev pub layout : State → Layout
layout c = record { at = c.at; frame_words = c.frame_words; frames = c.frames; tile_words = λ array. words_of_tile (slice_get c.arrays array) }

-- the words that the files have
abbrev pub word_of_tile : Option ArrayRef → Files → ℕ → ℕ → ℕ
word_of_tile None files tile k = 0
word_of_tile (Some a) files tile k = word_in_file a files (tile_words a.shape * tile + k)

abbrev pub stored : State → Files → ℕ → ℕ → ℕ → ℕ
stored c files array tile k = word_of_tile (slice_get c.arrays array) files tile k

-- the current words of the arrays
abbrev pub current_word : State → Files → List ℕ → ℕ → ℕ → ℕ → ℕ
current_word c files words array tile k = current (stored c files) (layout c) c.held words array tile k

-- what always holds of a cache: its arrays and frames are as it was asked for, and each held tile exists, in a frame of its own, and is marked only where it may be written
pub record IsCache (c : State) : Type 0 where
  pub arrays : AreArrays c.arrays c.frame_words
  pub frames : 3 ≤ c.frames
  pub apart : AreApart c.frames c.held
  pub count : length c.held ≤ c.frames
  pub exist : (array tile : ℕ) (h : Held) → look_up c.held array tile ≡ Some h → Exists c array tile
  pub marked : (array tile : ℕ) (h : Held) → look_up c.held array tile ≡ Some h → h.marked ≡ true → IsWritable c array

-- the files of all held tiles have their lengths, and tiles that are not marked have their files' words
pub record IsReady (c : State) (files : Files) (words : List ℕ) : Type 0 where
  pub files_of_held : (array tile : ℕ) (h : Held) → look_up c.held array tile ≡ Some h → IsArrayAt c.arrays array (λ a. HasFile a files)
  pub clean : AreClean (stored c files) (layout c) c.held words

-- where the disk tells, the array's file is there with its length
abbrev pub IsFileThere : State → ℕ → Option Files → Type 0
IsFileThere c array files = ForSome files (λ fs. IsArrayAt c.arrays array (λ a. HasFile a fs))

-- and the cache is ready besides
abbrev pub IsReadyFor : State → ℕ → Option Files → List ℕ → Type 0
IsReadyFor c array files words = ForSome files (λ fs. IsReady c fs words × IsArrayAt c.arrays array (λ a. HasFile a fs))

-- the frames lie among the words
abbrev pub HasRoom : State → List ℕ → Type 0
HasRoom c words = c.at + c.frames * c.frame_words ≤ length words

-- words outside the frames are the same
pub record IsSameOutsideFrames (c : State) (old new : List ℕ) : Type 0 where
  pub same_length : length new ≡ length old
  pub same : (p : ℕ) → (p < c.at) ⊎ (c.at + c.frames * c.frame_words ≤ p) → slice_index new p ≡ slice_index old p

-- of the files of a disk that tells them, all but that of the writable array are the same, and each is there still and begins as before: with an array's first eight bytes, or with what stands in their place
pub record OnlyWritableDiffers (c : State) (old new : Option Files) : Type 0 where
  pub tells : is_some new ≡ is_some old
  pub begins : (name : List ℕ) → bytes_before name 8 new ≡ bytes_before name 8 old
  pub same : (name : List ℕ) → ((i : ℕ) (a : ArrayRef) → slice_get c.arrays i ≡ Some a → a.writable ≡ true → a.file.bytes ≢ name) → ForSome old (λ fs. ForSome new (λ gs. file gs name ≡ file fs name))
