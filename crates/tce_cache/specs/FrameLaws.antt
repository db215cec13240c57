-- What holds of held tiles and of current words.
use Rattle.std.specs.Prelude.{[], ◌∷◌, ◌++◌, ◌≡◌, ℕ, ◌+◌, ◌<◌, ◌≤◌, false, List, length, slice_get, slice_index, slice_set, Some, None}
use Rattle.tce_cache.specs.Held.{Held, look_up, without, cleaned, touched, IsFree, AreApart}
use Rattle.tce_cache.specs.Current.{Layout, place, current, TilesFit, AreClean, AreOther, IsSameOutside, IsKept}

-- ---- the list of held tiles

-- what a touch makes of the list: of one that has the tile, of one with room, and of one without
pub record TouchesChangeTheList : Type 0 where
  pub held : (frames : ℕ) (held : List Held) (array tile : ℕ) (h g : Held) → length held ≤ frames → look_up held array tile ≡ Some h → g.array ≡ array → g.tile ≡ tile → touched frames held g ≡ g ∷ without array tile held
  pub room : (frames : ℕ) (held : List Held) (g : Held) → length held < frames → look_up held g.array g.tile ≡ None → touched frames held g ≡ g ∷ held
  pub full : (frames : ℕ) (rest : List Held) (z g : Held) → length (rest ++ z ∷ []) ≡ frames → look_up (rest ++ z ∷ []) g.array g.tile ≡ None → touched frames (rest ++ z ∷ []) g ≡ g ∷ rest

-- a touched tile is found, and of the others the two that were touched last stay as they are
abbrev pub LatestTilesStay : Type 0
LatestTilesStay =
    (frames : ℕ) (held : List Held) (h : Held) → 3 ≤ frames → AreApart frames held
    → (look_up (touched frames held h) h.array h.tile ≡ Some h)
    × ((k : ℕ) (x : Held) → k < 2 → slice_get held k ≡ Some x → AreOther h.array h.tile x.array x.tile → look_up (touched frames held h) x.array x.tile ≡ Some x)

-- ---- what is written into a frame

-- a write inside the frame of a tile changes no word of another tile
abbrev pub WritesStayInTheirTile : Type 0
WritesStayInTheirTile =
    (stored : ℕ → ℕ → ℕ → ℕ) (l : Layout) (held : List Held) (old new : List ℕ) (array tile : ℕ) (h : Held)
    → AreApart l.frames held → look_up held array tile ≡ Some h → IsSameOutside l h.frame old new
    → (b u j : ℕ) → j < l.frame_words → AreOther array tile b u → current stored l held new b u j ≡ current stored l held old b u j

-- a word that is put is the current one, and all others stay
abbrev pub PutsAreCurrent : Type 0
PutsAreCurrent =
    (stored : ℕ → ℕ → ℕ → ℕ) (l : Layout) (held : List Held) (words : List ℕ) (array tile k w : ℕ) (h : Held)
    → AreApart l.frames held → look_up held array tile ≡ Some h → k < l.frame_words → place l h.frame + k < length words
    → let new : List ℕ = slice_set words (place l h.frame + k) w in
    (current stored l held new array tile k ≡ w)
    × ((b u j : ℕ) → j < l.frame_words → (b ≡ array → u ≡ tile → j ≡ k → ⊥) → current stored l held new b u j ≡ current stored l held words b u j)

-- tiles that are not marked stay as their files have them, when a marked one is written
abbrev pub WritesLeaveCleanTiles : Type 0
WritesLeaveCleanTiles =
    (stored : ℕ → ℕ → ℕ → ℕ) (l : Layout) (held : List Held) (old new : List ℕ) (array tile : ℕ) (h : Held)
    → TilesFit l → AreApart l.frames held → look_up held array tile ≡ Some h → (h.marked ≡ false → ⊥) → IsSameOutside l h.frame old new
    → AreClean stored l held old → AreClean stored l held new

-- ---- what a cache does: each step keeps all current words, the tiles apart, and clean tiles clean

-- a held tile comes to the front, and may be marked
abbrev pub TouchesKeep : Type 0
TouchesKeep =
    (l : Layout) (stored : ℕ → ℕ → ℕ → ℕ) (held : List Held) (words : List ℕ) (array tile : ℕ) (h g : Held)
    → AreApart l.frames held → AreClean stored l held words → look_up held array tile ≡ Some h
    → g.array ≡ array → g.tile ≡ tile → g.frame ≡ h.frame → (g.marked ≡ false → h.marked ≡ false)
    → IsKept l stored stored held (g ∷ without array tile held) words words

-- a tile is read into a free frame
abbrev pub LoadsKeep : Type 0
LoadsKeep =
    (l : Layout) (stored : ℕ → ℕ → ℕ → ℕ) (held : List Held) (old new : List ℕ) (g : Held)
    → TilesFit l → AreApart l.frames held → AreClean stored l held old → look_up held g.array g.tile ≡ None → IsFree g.frame held → g.frame < l.frames
    → IsSameOutside l g.frame old new → ((k : ℕ) → k < l.tile_words g.array → slice_index new (place l g.frame + k) ≡ stored g.array g.tile k)
    → IsKept l stored stored held (g ∷ held) old new

-- the last tile, which is not marked, is given up
abbrev pub DropsKeep : Type 0
DropsKeep =
    (l : Layout) (stored : ℕ → ℕ → ℕ → ℕ) (held : List Held) (z : Held) (words : List ℕ)
    → AreApart l.frames (held ++ z ∷ []) → AreClean stored l (held ++ z ∷ []) words → z.marked ≡ false
    → IsKept l stored stored (held ++ z ∷ []) held words words × IsFree z.frame held

-- a tile is written to its file
abbrev pub WriteBacksKeep : Type 0
WriteBacksKeep =
    (l : Layout) (stored stored' : ℕ → ℕ → ℕ → ℕ) (held held' : List Held) (words : List ℕ) (array tile : ℕ) (h : Held)
    → AreApart l.frames held → AreClean stored l held words → look_up held array tile ≡ Some h
    → held' ≡ cleaned array tile held
    → ((k : ℕ) → k < l.tile_words array → stored' array tile k ≡ slice_index words (place l h.frame + k))
    → ((b u k : ℕ) → AreOther array tile b u → k < l.tile_words b → stored' b u k ≡ stored b u k)
    → IsKept l stored stored' held held' words words
