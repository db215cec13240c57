-- Tiles that follow one another, in an array's file and in the frames: what is written and cleaned of them in one step.
use Rattle.std.specs.Prelude.{◌≡◌, ℕ, zero, suc, ◌+◌, ◌*◌, ◌<◌, Bool, true, List, Option, Some, slice_get, slice_index}
use Rattle.std.specs.Option.{ForSome, option_map}
use Rattle.tce_outside.specs.Files.{Files, file}
use Rattle.tce_array.specs.Files.{AreBytes}
use Rattle.tce_cache.specs.Held.{Held, look_up, cleaned}
use Rattle.tce_cache.specs.Frames.{held_at}
use Rattle.tce_cache.specs.Current.{place, AreOther}
use Rattle.tce_cache.specs.declared.array.ArrayRef.{ArrayRef}
use Rattle.tce_cache.specs.declared.cache.writing.Run.{Run}
use Rattle.tce_cache.specs.Transfer.{contents}
use Rattle.tce_cache.specs.Cache.{State, layout, stored, words_of_tile}
use Rattle.tce_cache.specs.Touch.{front}

-- a run of so many tiles that begins as this one
abbrev pub run_of : Run → ℕ → Run
run_of run n = record run { n = n }

-- there are tiles, each is in its frame, marked, and its words stand right behind those of the one before
pub record IsRun (c : State) (run : Run) : Type 0 where
  pub some : 0 < run.n
  pub held : (i : ℕ) → i < run.n → look_up c.held run.array (run.tile + i) ≡ Some (held_at run.array (run.tile + i) (run.frame + i) true)
  pub close : (i : ℕ) → i < run.n → words_of_tile (slice_get c.arrays run.array) * i ≡ i * c.frame_words

-- n tiles from one on are no more marked
abbrev pub run_cleaned : ℕ → ℕ → ℕ → List Held → List Held
run_cleaned array tile zero held = held
run_cleaned array tile (suc n) held = cleaned array (tile + n) (run_cleaned array tile n held)

-- the tiles in n frames from one on follow one another, and are no more marked
pub record AreCleaned (frame n : ℕ) (old new : List Held) : Type 0 where
  pub array : ℕ
  pub tile : ℕ
  pub marked : Bool
  pub held : (i : ℕ) → i < n → look_up old array (tile + i) ≡ Some (held_at array (tile + i) (frame + i) marked)
  pub list : new ≡ run_cleaned array tile n old

-- the tiles of a run were written from their frames, and no other word of a file changed
pub record IsRunWritten (c : State) (before after : Files) (words : List ℕ) (run : Run) : Type 0 where
  pub here : (i k : ℕ) → i < run.n → k < words_of_tile (slice_get c.arrays run.array) → stored c after run.array (run.tile + i) k ≡ slice_index words (place (layout c) (run.frame + i) + k)
  pub others : (b u k : ℕ) → ((i : ℕ) → i < run.n → AreOther run.array (run.tile + i) b u) → k < words_of_tile (slice_get c.arrays b) → stored c after b u k ≡ stored c before b u k
  pub fronts : (i : ℕ) (a : ArrayRef) → slice_get c.arrays i ≡ Some a → option_map (front a) (file after a.file.bytes) ≡ option_map (front a) (file before a.file.bytes)
  pub bytes : (i : ℕ) (a : ArrayRef) → slice_get c.arrays i ≡ Some a → AreBytes (contents a before) → AreBytes (contents a after)

abbrev pub WritesRun : State → Option Files → Option Files → List ℕ → Run → Type 0
WritesRun c before after words run = ForSome before (λ fs. ForSome after (λ gs. IsRunWritten c fs gs words run))
