-- What a step makes of the list of held tiles, by the frame that it concerns.
use Rattle.std.specs.Prelude.{◌≡◌, ℕ, ◌^◌, ◌<◌, Bool, ◌||◌, List, [], ◌∷◌, ◌++◌, length, Option, Some, None, MatchOption}
use Rattle.std.specs.Option.{IsSomeAnd}
use Rattle.tce_cache.specs.Held.{Held, look_up, without, cleaned}

-- frames of a table: more than memory has room for, and twice as many numbers still fit a word
abbrev pub max_frames : ℕ
max_frames = 2 ^ 40

-- a tile in a frame, marked or not
abbrev pub held_at : ℕ → ℕ → ℕ → Bool → Held
held_at array tile frame marked = record { array = array; tile = tile; frame = frame; marked = marked }

-- a tile is in the frame
abbrev pub HasTile : ℕ → List Held → Type 0
HasTile frame held = (h : Held) × (look_up held h.array h.tile ≡ Some h) × (h.frame ≡ frame)

-- each tile is in one of as many frames, counted from the first
abbrev pub AreLow : List Held → Type 0
AreLow held = (array tile : ℕ) (h : Held) → look_up held array tile ≡ Some h → h.frame < length held

-- the answer is the frame of the tile that was looked up, and none where that is not held
abbrev pub IsFrameOf : Option Held → Option ℕ → Type 0
IsFrameOf found answer = MatchOption answer (found ≡ None) (λ f. IsSomeAnd found (λ h. h.frame ≡ f))

-- the frame is that of the last tile
abbrev pub IsLastFrame : ℕ → List Held → Type 0
IsLastFrame frame held = (rest : List Held) (z : Held) → held ≡ rest ++ z ∷ [] → frame ≡ z.frame

-- the tile in the frame is no more marked
abbrev pub IsCleaned : ℕ → List Held → List Held → Type 0
IsCleaned frame old new = (array tile : ℕ) (h : Held) → look_up old array tile ≡ Some h → h.frame ≡ frame → new ≡ cleaned array tile old

-- the tile in the frame gave way to another, which is in front
abbrev pub IsReplaced : ℕ → Held → List Held → List Held → Type 0
IsReplaced frame other old new = (array tile : ℕ) (h : Held) → look_up old array tile ≡ Some h → h.frame ≡ frame → new ≡ other ∷ without array tile old

-- the tile in the frame is in front, and marked if it was or is to be
abbrev pub IsMovedToFront : ℕ → Bool → List Held → List Held → Type 0
IsMovedToFront frame mark old new =
    (array tile : ℕ) (h : Held) → look_up old array tile ≡ Some h → h.frame ≡ frame → new ≡ record h { marked = h.marked || mark } ∷ without array tile old
