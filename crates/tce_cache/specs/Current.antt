-- The current words of tiles: those in a frame, and else those in a file.
use Rattle.std.specs.Prelude.{◌≡◌, ◌⊎◌, ℕ, ◌+◌, ◌*◌, ◌<◌, ◌≤◌, false, List, slice_index, Option, Some, None}
use Rattle.tce_cache.specs.Held.{Held, look_up, AreApart}

-- where the frames stand among the words
pub record Layout : Type 0 where
  pub at : ℕ
  pub frame_words : ℕ
  pub frames : ℕ
  -- how many words a tile of each array has
  pub tile_words : ℕ → ℕ

abbrev pub place : Layout → ℕ → ℕ
place l frame = l.at + frame * l.frame_words

-- no tile is larger than a frame
abbrev pub TilesFit : Layout → Type 0
TilesFit l = (array : ℕ) → l.tile_words array ≤ l.frame_words

abbrev pub word_of : (ℕ → ℕ → ℕ → ℕ) → Layout → List ℕ → Option Held → ℕ → ℕ → ℕ → ℕ
word_of stored l words None array tile k = stored array tile k
word_of stored l words (Some h) array tile k = slice_index words (place l h.frame + k)

-- a word of a tile, where `stored` are the words that the files have
abbrev pub current : (ℕ → ℕ → ℕ → ℕ) → Layout → List Held → List ℕ → ℕ → ℕ → ℕ → ℕ
current stored l held words array tile k = word_of stored l words (look_up held array tile) array tile k

-- what a tile that is not marked has in its frame is what its file has
abbrev pub AreClean : (ℕ → ℕ → ℕ → ℕ) → Layout → List Held → List ℕ → Type 0
AreClean stored l held words =
    (array tile : ℕ) (h : Held) → look_up held array tile ≡ Some h → h.marked ≡ false → (k : ℕ) → k < l.tile_words array
    → slice_index words (place l h.frame + k) ≡ stored array tile k

-- words outside a frame are the same
abbrev pub IsSameOutside : Layout → ℕ → List ℕ → List ℕ → Type 0
IsSameOutside l frame old new = (p : ℕ) → (p < place l frame) ⊎ (place l frame + l.frame_words ≤ p) → slice_index new p ≡ slice_index old p

-- two names of words differ
abbrev pub AreOther : ℕ → ℕ → ℕ → ℕ → Type 0
AreOther array tile b u = (b ≡ array → u ≡ tile → ⊥)

-- the same current words
abbrev pub IsSameCurrent : Layout → (ℕ → ℕ → ℕ → ℕ) → (ℕ → ℕ → ℕ → ℕ) → Type 0
IsSameCurrent l old new = (b u j : ℕ) → j < l.tile_words b → new b u j ≡ old b u j

-- a step changes no current word, and leaves tiles in different frames and those without marks as their files have them
pub record IsKept (l : Layout) (stored stored' : ℕ → ℕ → ℕ → ℕ) (held held' : List Held) (words words' : List ℕ) : Type 0 where
  pub current : IsSameCurrent l (current stored l held words) (current stored' l held' words')
  pub apart : AreApart l.frames held'
  pub clean : AreClean stored' l held' words'
