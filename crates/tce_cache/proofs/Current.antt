-- Laws of held tiles and of current words.
use Rattle.std.proofs.Common.{◌≡◌, ◌≢◌, ◌∙◌, ◌⊎◌, ℕ, ◌+◌, ◌-◌, ◌*◌, ◌<◌, ◌≤◌, true, false, if◌then◌else◌, List, [], ◌∷◌, slice_index, slice_set, Option, Some, None, sym, refl, ap, subst, arith, inl, inr}
use Rattle.std.proofs.lemmas.Bool.{cases_lt, cases_eq}
use Rattle.std.proofs.lemmas.List.{get_or-set_other}
use Rattle.std.proofs.lemmas.Nat.{same_from_place}
use Rattle.tce_cache.specs.Held.{Held, is_tile, look_up, without, IsFree, AreApart}
use Rattle.tce_cache.specs.Current.{Layout, place, word_of, current, AreClean, TilesFit, IsSameOutside, AreOther}

-- a tile is this one, or another
pub tile_cases : (array tile : ℕ) (h : Held) → ((is_tile array tile h ≡ true) × (h.array ≡ array) × (h.tile ≡ tile)) ⊎ ((is_tile array tile h ≡ false) × (h.array ≡ array → h.tile ≡ tile → ⊥))
tile_cases array tile h =
    elim (cases_eq h.array array) [
      | inl a ↦ elim (cases_eq h.tile tile) [
        | inl t ↦ inl (grind (arith, a, t), a, t)
        | inr n ↦ inr (grind (arith, n), λ _ e. n e)
      ]
      | inr n ↦ inr (grind (arith, n), λ e _. n e)
    ]

-- a tile that is found is that tile
pub found_is : (held : List Held) (array tile : ℕ) (h : Held) → look_up held array tile ≡ Some h → (h.array ≡ array) × (h.tile ≡ tile)
found_is [] array tile h e = absurd (cc)
found_is (g ∷ gs) array tile h e =
    elim (tile_cases array tile g) [
      | inl s ↦
          let found : Some g ≡ Some h = ap (λ v. if v then Some g else look_up gs array tile) (sym s.0) ∙ e in
          let same : g ≡ h = cc in
          subst (λ (x : Held). (x.array ≡ array) × (x.tile ≡ tile)) same (s.1, s.2)
      | inr n ↦ found_is gs array tile h (ap (λ v. if v then Some g else look_up gs array tile) (sym n.0) ∙ e)
    ]

-- the frame of a tile that is found is not free
pub not_free : (held : List Held) (array tile frame : ℕ) (h : Held) → look_up held array tile ≡ Some h → IsFree frame held → frame ≢ h.frame
not_free [] array tile frame h e free = absurd (cc)
not_free (g ∷ gs) array tile frame h e free =
    elim (tile_cases array tile g) [
      | inl s ↦
          let found : Some g ≡ Some h = ap (λ v. if v then Some g else look_up gs array tile) (sym s.0) ∙ e in
          let same : g ≡ h = cc in
          subst (λ (x : Held). frame ≢ x.frame) same free.0
      | inr n ↦ not_free gs array tile frame h (ap (λ v. if v then Some g else look_up gs array tile) (sym n.0) ∙ e) free.1
    ]

-- different tiles are in different frames
pub frames_differ : (frames : ℕ) (held : List Held) (a t b u : ℕ) (g h : Held) → AreApart frames held → look_up held a t ≡ Some g → look_up held b u ≡ Some h → AreOther a t b u → h.frame ≢ g.frame
frames_differ frames [] a t b u g h apart e f other = absurd (cc)
frames_differ frames (x ∷ xs) a t b u g h apart e f other =
    elim (tile_cases a t x) [
      | inl s ↦
          let found : Some x ≡ Some g = ap (λ v. if v then Some x else look_up xs a t) (sym s.0) ∙ e in
          let same : x ≡ g = cc in
          elim (tile_cases b u x) [
            | inl r ↦ absurd (other (sym r.1 ∙ s.1) (sym r.2 ∙ s.2))
            | inr m ↦
                let rest : look_up xs b u ≡ Some h = ap (λ v. if v then Some x else look_up xs b u) (sym m.0) ∙ f in
                λ eq. not_free xs b u x.frame h rest apart.1 (ap (λ (y : Held). y.frame) same ∙ sym eq)
          ]
      | inr n ↦
          let here : look_up xs a t ≡ Some g = ap (λ v. if v then Some x else look_up xs a t) (sym n.0) ∙ e in
          elim (tile_cases b u x) [
            | inl r ↦
                let found : Some x ≡ Some h = ap (λ v. if v then Some x else look_up xs b u) (sym r.0) ∙ f in
                let same : x ≡ h = cc in
                λ eq. not_free xs a t x.frame g here apart.1 (ap (λ (y : Held). y.frame) same ∙ eq)
            | inr m ↦
                let rest : look_up xs b u ≡ Some h = ap (λ v. if v then Some x else look_up xs b u) (sym m.0) ∙ f in
                frames_differ frames xs a t b u g h apart.3 here rest other
          ]
    ]

-- places of different frames are apart
pub places_differ : (l : Layout) (f g j : ℕ) → f ≢ g → j < l.frame_words → (place l f + j < place l g) ⊎ (place l g + l.frame_words ≤ place l f + j)
places_differ l f g j n h =
    elim (cases_lt (place l f + j) (place l g)) [
      | inl below ↦ inl below
      | inr above ↦ elim (cases_lt (place l f + j) (place l g + l.frame_words)) [
        | inl within ↦
            let r : ℕ = place l f + j - place l g in
            let e : f * l.frame_words + j ≡ g * l.frame_words + r = omega arith in
            absurd (n ((same_from_place f j g r l.frame_words h (omega arith) e).0))
        | inr past ↦ inr past
      ]
    ]

-- a write inside the frame of a tile changes no word of another tile
pub others_stay : (stored : ℕ → ℕ → ℕ → ℕ) (l : Layout) (held : List Held) (old new : List ℕ) (array tile : ℕ) (h : Held)
    → AreApart l.frames held → look_up held array tile ≡ Some h → IsSameOutside l h.frame old new
    → (b u j : ℕ) → j < l.frame_words → AreOther array tile b u → current stored l held new b u j ≡ current stored l held old b u j
others_stay stored l held old new array tile h apart found outside b u j lt other = by_look_up (look_up held b u) refl
  where
    by_look_up : (o : Option Held) → look_up held b u ≡ o → word_of stored l new o b u j ≡ word_of stored l old o b u j
    by_look_up None e = refl
    by_look_up (Some g) e = outside (place l g.frame + j) (places_differ l g.frame h.frame j (frames_differ l.frames held array tile b u h g apart found e other) lt)

-- where the tile is held its current words are those of the frame
pub current_held : (stored : ℕ → ℕ → ℕ → ℕ) (l : Layout) (held : List Held) (words : List ℕ) (array tile k : ℕ) (h : Held) → look_up held array tile ≡ Some h → current stored l held words array tile k ≡ slice_index words (place l h.frame + k)
current_held stored l held words array tile k h e = ap (λ o. word_of stored l words o array tile k) e

-- one word set changes no word outside the frame
pub set_outside : (l : Layout) (frame k w : ℕ) (words : List ℕ) → k < l.frame_words → IsSameOutside l frame words (slice_set words (place l frame + k) w)
set_outside l frame k w words lt p out =
    get_or-set_other words (place l frame + k) p w 0 (λ e. elim out [ inl below ↦ omega arith | inr past ↦ omega arith ])

pub put_other : (stored : ℕ → ℕ → ℕ → ℕ) (l : Layout) (held : List Held) (words : List ℕ) (array tile k w : ℕ) (h : Held)
    → AreApart l.frames held → look_up held array tile ≡ Some h → k < l.frame_words
    → (b u j : ℕ) → j < l.frame_words → (b ≡ array → u ≡ tile → j ≡ k → ⊥) → current stored l held (slice_set words (place l h.frame + k) w) b u j ≡ current stored l held words b u j
put_other stored l held words array tile k w h apart found lt b u j in_frame other =
    let new : List ℕ = slice_set words (place l h.frame + k) w in
    elim (cases_eq b array) [
      | inr n ↦ others_stay stored l held words new array tile h apart found (set_outside l h.frame k w words lt) b u j in_frame (λ e _. n e)
      | inl a ↦ elim (cases_eq u tile) [
        | inr n ↦ others_stay stored l held words new array tile h apart found (set_outside l h.frame k w words lt) b u j in_frame (λ _ e. n e)
        | inl t ↦
            let same : look_up held b u ≡ Some h = ap (λ x. look_up held x u) a ∙ ap (λ x. look_up held array x) t ∙ found in
            let apart : place l h.frame + j ≢ place l h.frame + k = λ e. other a t (omega arith) in
            current_held stored l held new b u j h same
            ∙ get_or-set_other words (place l h.frame + k) (place l h.frame + j) w 0 apart
            ∙ sym (current_held stored l held words b u j h same)
      ]
    ]

pub inside : (l : Layout) (b k : ℕ) → l.tile_words b ≤ l.frame_words → k < l.tile_words b → k < l.frame_words
inside l b k fit lt = omega arith

pub clean_stay : (stored : ℕ → ℕ → ℕ → ℕ) (l : Layout) (held : List Held) (old new : List ℕ) (array tile : ℕ) (h : Held)
    → TilesFit l → AreApart l.frames held → look_up held array tile ≡ Some h → (h.marked ≡ false → ⊥) → IsSameOutside l h.frame old new
    → AreClean stored l held old → AreClean stored l held new
clean_stay stored l held old new array tile h fit apart found marked outside clean b u g e unmarked k lt =
    let other : AreOther array tile b u = λ a t.
    let same : Some h ≡ Some g = sym found ∙ ap (λ x. look_up held x tile) (sym a) ∙ ap (λ x. look_up held b x) (sym t) ∙ e in
    let is : h ≡ g = cc in
    marked (ap (λ (x : Held). x.marked) is ∙ unmarked) in
    outside (place l g.frame + k) (places_differ l g.frame h.frame k (frames_differ l.frames held array tile b u h g apart found e other) (inside l b k (fit b) lt))
    ∙ clean b u g e unmarked k lt

-- ---- tiles that are found, or taken out of the list
pub tests : (array tile : ℕ) (h : Held) (x y : Option Held) → h.array ≡ array → h.tile ≡ tile → (if is_tile array tile h then x else y) ≡ x
tests array tile h x y a t = elim (tile_cases array tile h) [ inl s ↦ ap (λ v. if v then x else y) s.0 | inr n ↦ absurd (n.1 a t) ]

pub tests_not : (array tile : ℕ) (h : Held) (x y : Option Held) → (h.array ≡ array → h.tile ≡ tile → ⊥) → (if is_tile array tile h then x else y) ≡ y
tests_not array tile h x y n = elim (tile_cases array tile h) [ inl s ↦ absurd (n s.1 s.2) | inr m ↦ ap (λ v. if v then x else y) m.0 ]

-- other tiles are found where they were
pub look_up_without : (held : List Held) (array tile b u : ℕ) → AreOther array tile b u → look_up (without array tile held) b u ≡ look_up held b u
look_up_without [] array tile b u other = refl
look_up_without (x ∷ xs) array tile b u other =
    elim (tile_cases array tile x) [
      | inl s ↦
          ap (λ v. look_up (if v then xs else x ∷ without array tile xs) b u) s.0
          ∙ sym (tests_not b u x (Some x) (look_up xs b u) (λ a t. other (sym a ∙ s.1) (sym t ∙ s.2)))
      | inr n ↦
          ap (λ v. look_up (if v then xs else x ∷ without array tile xs) b u) n.0
          ∙ ap (λ o. if is_tile b u x then Some x else o) (look_up_without xs array tile b u other)
    ]

-- a tile that was taken out is not found
pub look_up_taken : (frames : ℕ) (held : List Held) (array tile : ℕ) → AreApart frames held → look_up (without array tile held) array tile ≡ None
look_up_taken frames [] array tile apart = refl
look_up_taken frames (x ∷ xs) array tile apart =
    elim (tile_cases array tile x) [
      | inl s ↦
          ap (λ v. look_up (if v then xs else x ∷ without array tile xs) array tile) s.0
          ∙ ap (λ i. look_up xs i tile) (sym s.1) ∙ ap (λ i. look_up xs x.array i) (sym s.2) ∙ apart.0
      | inr n ↦
          ap (λ v. look_up (if v then xs else x ∷ without array tile xs) array tile) n.0
          ∙ tests_not array tile x (Some x) (look_up (without array tile xs) array tile) n.1
          ∙ look_up_taken frames xs array tile apart.3
    ]

pub free_without : (frame array tile : ℕ) (held : List Held) → IsFree frame held → IsFree frame (without array tile held)
free_without frame array tile [] f = tt
free_without frame array tile (x ∷ xs) f = elim (is_tile array tile x) as (λ v. IsFree frame (if v then xs else x ∷ without array tile xs)) [ true ↦ f.1 | false ↦ (f.0, free_without frame array tile xs f.1) ]

-- the frame of a tile that was taken out is free
pub free_taken : (frames : ℕ) (held : List Held) (array tile : ℕ) (h : Held) → AreApart frames held → look_up held array tile ≡ Some h → IsFree h.frame (without array tile held)
free_taken frames [] array tile h apart e = tt
free_taken frames (x ∷ xs) array tile h apart e =
    elim (tile_cases array tile x) [
      | inl s ↦
          let found : Some x ≡ Some h = ap (λ v. if v then Some x else look_up xs array tile) (sym s.0) ∙ e in
          let same : x ≡ h = cc in
          subst (λ v. IsFree h.frame (if v then xs else x ∷ without array tile xs)) (sym s.0) (subst (λ (y : Held). IsFree y.frame xs) same apart.1)
      | inr n ↦
          let later : look_up xs array tile ≡ Some h = ap (λ v. if v then Some x else look_up xs array tile) (sym n.0) ∙ e in
          subst (λ v. IsFree h.frame (if v then xs else x ∷ without array tile xs)) (sym n.0)
          ((λ k. not_free xs array tile x.frame h later apart.1 (sym k)), free_taken frames xs array tile h apart.3 later)
    ]

pub below_found : (frames : ℕ) (held : List Held) (array tile : ℕ) (h : Held) → AreApart frames held → look_up held array tile ≡ Some h → h.frame < frames
below_found frames [] array tile h apart e = absurd (cc)
below_found frames (x ∷ xs) array tile h apart e =
    elim (tile_cases array tile x) [
      | inl s ↦
          let found : Some x ≡ Some h = ap (λ v. if v then Some x else look_up xs array tile) (sym s.0) ∙ e in
          let same : x ≡ h = cc in
          subst (λ (y : Held). y.frame < frames) same apart.2
      | inr n ↦ below_found frames xs array tile h apart.3 (ap (λ v. if v then Some x else look_up xs array tile) (sym n.0) ∙ e)
    ]

pub apart_without : (frames array tile : ℕ) (held : List Held) → AreApart frames held → AreApart frames (without array tile held)
apart_without frames array tile [] apart = tt
apart_without frames array tile (x ∷ xs) apart =
    elim (tile_cases array tile x) [
      | inl s ↦ subst (λ v. AreApart frames (if v then xs else x ∷ without array tile xs)) (sym s.0) apart.3
      | inr n ↦ subst (λ v. AreApart frames (if v then xs else x ∷ without array tile xs)) (sym n.0)
          (look_up_without xs array tile x.array x.tile n.1 ∙ apart.0, free_without x.frame array tile xs apart.1, apart.2, apart_without frames array tile xs apart.3)
    ]

-- a tile is this one or another
pub same_tile : (array tile b u : ℕ) → ((b ≡ array) × (u ≡ tile)) ⊎ AreOther array tile b u
same_tile array tile b u =
    elim (cases_eq b array) [
      | inl a ↦ elim (cases_eq u tile) [ inl t ↦ inl (a, t) | inr n ↦ inr (λ _ e. n e) ]
      | inr n ↦ inr (λ e _. n e)
    ]

pub look_up_at : (held : List Held) (array tile b u : ℕ) → b ≡ array → u ≡ tile → look_up held b u ≡ look_up held array tile
look_up_at held array tile b u a t = ap (λ i. look_up held i u) a ∙ ap (λ i. look_up held array i) t
