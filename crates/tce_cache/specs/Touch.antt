-- What a touch and a flush do.
use Rattle.std.specs.Prelude.{◌≡◌, ℕ, ◌+◌, ◌<◌, Bool, false, ◌||◌, List, ◌∷◌, take, drop, map, length, Option, Some, None, slice_get, slice_index}
use Rattle.std.specs.Option.{ForSome, option_map}
use Rattle.tce_outside.specs.Files.{Files, file}
use Rattle.tce_array.specs.Files.{AreBytes}
use Rattle.tce_array.specs.Forms.{head_len}
use Rattle.tce_cache.specs.Held.{Held, look_up, touched, IsFree}
use Rattle.tce_cache.specs.Current.{place, IsKept}
use Rattle.tce_cache.specs.declared.array.ArrayRef.{ArrayRef}
use Rattle.tce_cache.specs.Transfer.{contents}
use Rattle.tce_cache.specs.Cache.{State, layout, stored, current_word, IsReady, words_of_tile}

-- the cache with these held tiles and touches
abbrev pub with_held : State → List Held → ℕ → State
with_held c held touches = record c { held = held; touches = touches }

-- the cache without the tile that was placed in front of these
abbrev pub before_placing : State → List Held → State
before_placing c held = with_held c (drop 1 held) c.touches

-- the tile is in front, in the frame at the answered place
pub record IsTouched (old new : State) (array tile : ℕ) (write : Bool) (answer : ℕ) : Type 0 where
  pub frame : ℕ
  pub marked : Bool
  pub state : new ≡ with_held old (touched old.frames old.held (record { array = array; tile = tile; frame = frame; marked = marked })) (old.touches + 1)
  pub answer_is : answer ≡ place (layout old) frame
  pub was_held : (h : Held) → look_up old.held array tile ≡ Some h → (frame ≡ h.frame) × (marked ≡ (h.marked || write))
  pub was_not : look_up old.held array tile ≡ None → marked ≡ write

-- the length and the head of an array's file
abbrev pub front : ArrayRef → List ℕ → ℕ × List ℕ
front a bytes = (length bytes, take (head_len a.form a.shape) bytes)

-- no current word changed, each file has its length and its head, and bytes as numbers if it had, and the cache is ready for the next call
pub record IsSameArrays (old new : State) (before after : Files) (words words' : List ℕ) : Type 0 where
  pub kept : IsKept (layout old) (stored old before) (stored old after) old.held new.held words words'
  pub ready : IsReady new after words'
  pub fronts : (i : ℕ) (a : ArrayRef) → slice_get old.arrays i ≡ Some a → option_map (front a) (file after a.file.bytes) ≡ option_map (front a) (file before a.file.bytes)
  pub bytes : (i : ℕ) (a : ArrayRef) → slice_get old.arrays i ≡ Some a → AreBytes (contents a before) → AreBytes (contents a after)

-- where the disk tells
abbrev pub KeepsArrays : State → State → Option Files → Option Files → List ℕ → List ℕ → Type 0
KeepsArrays old new before after words words' = ForSome before (λ fs. ForSome after (λ gs. IsSameArrays old new fs gs words words'))

-- the words at a place are the current words of a tile
abbrev pub AreShown : State → Option Files → List ℕ → List ℕ → ℕ → ℕ → ℕ → Type 0
AreShown c before words words' array tile at =
    ForSome before (λ fs. (k : ℕ) → k < words_of_tile (slice_get c.arrays array) → slice_index words' (at + k) ≡ current_word c fs words array tile k)

abbrev pub unmarked : Held → Held
unmarked h = record h { marked = false }

abbrev pub all_unmarked : State → State
all_unmarked c = with_held c (map unmarked c.held) c.touches

-- each file has the current words
abbrev pub AreWritten : State → Option Files → Option Files → List ℕ → Type 0
AreWritten c before after words =
    ForSome before (λ fs. ForSome after (λ gs. (array tile k : ℕ) → k < words_of_tile (slice_get c.arrays array) → stored c gs array tile k ≡ current_word c fs words array tile k))

-- ---- parts of a touch

-- the words of the frame are those of a tile in its file
abbrev pub IsTileRead : State → Option Files → List ℕ → ℕ → ℕ → ℕ → Type 0
IsTileRead c before words array tile frame =
    ForSome before (λ fs. (k : ℕ) → k < words_of_tile (slice_get c.arrays array) → slice_index words (place (layout c) frame + k) ≡ stored c fs array tile k)

-- the tile is in front, in a frame that no other tile is in
pub record IsPlaced (old new : State) (g : Held) : Type 0 where
  pub rest : List Held
  pub state : new ≡ with_held old (g ∷ rest) old.touches
  pub list : touched old.frames old.held g ≡ g ∷ rest
  pub absent : look_up rest g.array g.tile ≡ None
  pub free : IsFree g.frame rest
  pub low : g.frame < old.frames
