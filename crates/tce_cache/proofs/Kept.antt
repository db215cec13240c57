-- What the steps of a cache keep: a touch, a load, a drop and a write back of a tile change no current word.
use Rattle.std.proofs.Common.{◌≡◌, ◌≢◌, ◌∙◌, ◌⊎◌, ℕ, ◌+◌, ◌<◌, ◌≤◌, true, false, if◌then◌else◌, List, [], ◌∷◌, ◌++◌, slice_index, Option, Some, None, sym, refl, ap, subst, inl, inr}
use Rattle.tce_cache.specs.Held.{Held, is_tile, look_up, without, cleaned, IsFree, AreApart}
use Rattle.tce_cache.specs.Current.{Layout, place, word_of, current, AreClean, TilesFit, IsSameOutside, AreOther, IsKept}
use Rattle.tce_cache.proofs.Current.{tile_cases, not_free, places_differ, current_held, inside, tests, tests_not, look_up_without, look_up_taken, free_taken, below_found, apart_without, same_tile, look_up_at}

pub touch_kept : (l : Layout) (stored : ℕ → ℕ → ℕ → ℕ) (held : List Held) (words : List ℕ) (array tile : ℕ) (h g : Held)
    → AreApart l.frames held → AreClean stored l held words → look_up held array tile ≡ Some h
    → g.array ≡ array → g.tile ≡ tile → g.frame ≡ h.frame → (g.marked ≡ false → h.marked ≡ false)
    → IsKept l stored stored held (g ∷ without array tile held) words words
touch_kept l stored held words array tile h g apart clean found ga gt gf gm =
    record {
      current = λ b u j lt. elim (same_tile array tile b u) [
        | inl s ↦
            ap (λ o. word_of stored l words o b u j) (tests b u g (Some g) (look_up (without array tile held) b u) (ga ∙ sym s.0) (gt ∙ sym s.1))
            ∙ ap (λ f. slice_index words (place l f + j)) gf
            ∙ sym (current_held stored l held words b u j h (look_up_at held array tile b u s.0 s.1 ∙ found))
        | inr n ↦ ap (λ o. word_of stored l words o b u j) (tests_not b u g (Some g) (look_up (without array tile held) b u) (λ a t. n (sym a ∙ ga) (sym t ∙ gt)) ∙ look_up_without held array tile b u n)
      ];
      apart = (
        look_up_at (without array tile held) array tile g.array g.tile ga gt ∙ look_up_taken l.frames held array tile apart,
        subst (λ f. IsFree f (without array tile held)) (sym gf) (free_taken l.frames held array tile h apart found),
        subst (λ f. f < l.frames) (sym gf) (below_found l.frames held array tile h apart found),
        apart_without l.frames array tile held apart,
      );
      clean = λ b u x e unmarked k lt. elim (same_tile array tile b u) [
        | inl s ↦
            let is : Some g ≡ Some x = sym (tests b u g (Some g) (look_up (without array tile held) b u) (ga ∙ sym s.0) (gt ∙ sym s.1)) ∙ e in
            let same : g ≡ x = cc in
            let was : g.marked ≡ false = ap (λ (y : Held). y.marked) same ∙ unmarked in
            ap (λ (y : Held). slice_index words (place l y.frame + k)) (sym same)
            ∙ ap (λ f. slice_index words (place l f + k)) gf
            ∙ clean b u h (look_up_at held array tile b u s.0 s.1 ∙ found) (gm was) k lt
        | inr n ↦
            clean b u x (sym (tests_not b u g (Some g) (look_up (without array tile held) b u) (λ a t. n (sym a ∙ ga) (sym t ∙ gt)) ∙ look_up_without held array tile b u n) ∙ e) unmarked k lt
      ];
    }

-- a tile is found in a frame that is not free
pub found_apart : (l : Layout) (held : List Held) (b u j frame : ℕ) (x : Held) → IsFree frame held → look_up held b u ≡ Some x → j < l.frame_words → (place l x.frame + j < place l frame) ⊎ (place l frame + l.frame_words ≤ place l x.frame + j)
found_apart l held b u j frame x free e lt = places_differ l x.frame frame j (λ k. not_free held b u frame x e free (sym k)) lt

-- a write into a free frame changes no current word
pub free_stay : (stored : ℕ → ℕ → ℕ → ℕ) (l : Layout) (held : List Held) (old new : List ℕ) (frame b u j : ℕ) → IsFree frame held → IsSameOutside l frame old new → j < l.frame_words
    → current stored l held new b u j ≡ current stored l held old b u j
free_stay stored l held old new frame b u j free outside lt = by_look_up (look_up held b u) refl
  where
    by_look_up : (o : Option Held) → look_up held b u ≡ o → word_of stored l new o b u j ≡ word_of stored l old o b u j
    by_look_up None e = refl
    by_look_up (Some x) e = outside (place l x.frame + j) (found_apart l held b u j frame x free e lt)

pub load_kept : (l : Layout) (stored : ℕ → ℕ → ℕ → ℕ) (held : List Held) (old new : List ℕ) (g : Held)
    → TilesFit l → AreApart l.frames held → AreClean stored l held old → look_up held g.array g.tile ≡ None → IsFree g.frame held → g.frame < l.frames
    → IsSameOutside l g.frame old new → ((k : ℕ) → k < l.tile_words g.array → slice_index new (place l g.frame + k) ≡ stored g.array g.tile k)
    → IsKept l stored stored held (g ∷ held) old new
load_kept l stored held old new g fit apart clean absent free low outside loaded =
    record {
      current = λ b u j lt. elim (same_tile g.array g.tile b u) [
        | inl s ↦
            ap (λ o. word_of stored l new o b u j) (tests b u g (Some g) (look_up held b u) (sym s.0) (sym s.1))
            ∙ loaded j (subst (λ a. j < l.tile_words a) s.0 lt)
            ∙ ap (λ a. stored a g.tile j) (sym s.0) ∙ ap (λ t. stored b t j) (sym s.1)
            ∙ sym (ap (λ o. word_of stored l old o b u j) (look_up_at held g.array g.tile b u s.0 s.1 ∙ absent))
        | inr n ↦
            ap (λ o. word_of stored l new o b u j) (tests_not b u g (Some g) (look_up held b u) (λ a t. n (sym a) (sym t)))
            ∙ free_stay stored l held old new g.frame b u j free outside (inside l b j (fit b) lt)
      ];
      apart = (absent, free, low, apart);
      clean = λ b u x e unmarked k lt. elim (same_tile g.array g.tile b u) [
        | inl s ↦
            let is : Some g ≡ Some x = sym (tests b u g (Some g) (look_up held b u) (sym s.0) (sym s.1)) ∙ e in
            let same : g ≡ x = cc in
            ap (λ (y : Held). slice_index new (place l y.frame + k)) (sym same)
            ∙ loaded k (subst (λ a. k < l.tile_words a) s.0 lt)
            ∙ ap (λ a. stored a g.tile k) (sym s.0) ∙ ap (λ t. stored b t k) (sym s.1)
        | inr n ↦
            let was : look_up held b u ≡ Some x = sym (tests_not b u g (Some g) (look_up held b u) (λ a t. n (sym a) (sym t))) ∙ e in
            outside (place l x.frame + k) (found_apart l held b u k g.frame x free was (inside l b k (fit b) lt))
            ∙ clean b u x was unmarked k lt
      ];
    }

-- ---- the last tile
pub look_up-push : (held : List Held) (z : Held) (b u : ℕ) (x : Held) → look_up held b u ≡ Some x → look_up (held ++ z ∷ []) b u ≡ Some x
look_up-push [] z b u x e = absurd (cc)
look_up-push (y ∷ ys) z b u x e =
    elim (tile_cases b u y) [
      | inl s ↦ tests b u y (Some y) (look_up (ys ++ z ∷ []) b u) s.1 s.2 ∙ sym (tests b u y (Some y) (look_up ys b u) s.1 s.2) ∙ e
      | inr n ↦
          let later : look_up ys b u ≡ Some x = sym (tests_not b u y (Some y) (look_up ys b u) n.1) ∙ e in
          tests_not b u y (Some y) (look_up (ys ++ z ∷ []) b u) n.1 ∙ look_up-push ys z b u x later
    ]

pub look_up-push_none : (held : List Held) (z : Held) (b u : ℕ) → look_up held b u ≡ None → look_up (held ++ z ∷ []) b u ≡ look_up (z ∷ []) b u
look_up-push_none [] z b u e = refl
look_up-push_none (y ∷ ys) z b u e =
    elim (tile_cases b u y) [
      | inl s ↦ (let is : Some y ≡ None = sym (tests b u y (Some y) (look_up ys b u) s.1 s.2) ∙ e in absurd (cc))
      | inr n ↦
          let later : look_up ys b u ≡ None = sym (tests_not b u y (Some y) (look_up ys b u) n.1) ∙ e in
          tests_not b u y (Some y) (look_up (ys ++ z ∷ []) b u) n.1 ∙ look_up-push_none ys z b u later
    ]

free-front : (frame : ℕ) (held : List Held) (z : Held) → IsFree frame (held ++ z ∷ []) → IsFree frame held
free-front frame [] z f = tt
free-front frame (y ∷ ys) z f = (f.0, free-front frame ys z f.1)

free-back : (frame : ℕ) (held : List Held) (z : Held) → IsFree frame (held ++ z ∷ []) → frame ≢ z.frame
free-back frame [] z f = f.0
free-back frame (y ∷ ys) z f = free-back frame ys z f.1

pub none_in_front : (held : List Held) (z : Held) (b u : ℕ) → look_up (held ++ z ∷ []) b u ≡ None → look_up held b u ≡ None
none_in_front [] z b u e = refl
none_in_front (y ∷ ys) z b u e =
    elim (tile_cases b u y) [
      | inl s ↦ (let is : Some y ≡ None = sym (tests b u y (Some y) (look_up (ys ++ z ∷ []) b u) s.1 s.2) ∙ e in absurd (cc))
      | inr n ↦ tests_not b u y (Some y) (look_up ys b u) n.1 ∙ none_in_front ys z b u (sym (tests_not b u y (Some y) (look_up (ys ++ z ∷ []) b u) n.1) ∙ e)
    ]

pub apart-front : (frames : ℕ) (held : List Held) (z : Held) → AreApart frames (held ++ z ∷ []) → AreApart frames held
apart-front frames [] z a = tt
apart-front frames (y ∷ ys) z a = (none_in_front ys z y.array y.tile a.0, free-front y.frame ys z a.1, a.2, apart-front frames ys z a.3)

pub last_free : (frames : ℕ) (held : List Held) (z : Held) → AreApart frames (held ++ z ∷ []) → IsFree z.frame held
last_free frames [] z a = tt
last_free frames (y ∷ ys) z a = ((λ e. free-back y.frame ys z a.1 (sym e)), last_free frames ys z a.3)

-- the last tile is found
pub last_found : (frames : ℕ) (held : List Held) (z : Held) → AreApart frames (held ++ z ∷ []) → look_up held z.array z.tile ≡ None
last_found frames [] z a = refl
last_found frames (y ∷ ys) z a =
    elim (tile_cases z.array z.tile y) [
      | inl s ↦
          let gone : look_up (ys ++ z ∷ []) z.array z.tile ≡ None = ap (λ i. look_up (ys ++ z ∷ []) i z.tile) (sym s.1) ∙ ap (λ i. look_up (ys ++ z ∷ []) y.array i) (sym s.2) ∙ a.0 in
          let none : look_up ys z.array z.tile ≡ None = none_in_front ys z z.array z.tile gone in
          let is : look_up (ys ++ z ∷ []) z.array z.tile ≡ Some z = look_up-push_none ys z z.array z.tile none ∙ tests z.array z.tile z (Some z) None refl refl in
          let both : Some z ≡ None = sym is ∙ gone in
          absurd (cc)
      | inr n ↦ tests_not z.array z.tile y (Some y) (look_up ys z.array z.tile) n.1 ∙ last_found frames ys z a.3
    ]

pub drop_kept : (l : Layout) (stored : ℕ → ℕ → ℕ → ℕ) (held : List Held) (z : Held) (words : List ℕ)
    → AreApart l.frames (held ++ z ∷ []) → AreClean stored l (held ++ z ∷ []) words → z.marked ≡ false
    → IsKept l stored stored (held ++ z ∷ []) held words words
drop_kept l stored held z words apart clean unmarked =
    record {
      current = λ b u j lt. same_word b u j lt (look_up held b u) refl;
      apart = apart-front l.frames held z apart;
      clean = λ b u x e un k lt. clean b u x (look_up-push held z b u x e) un k lt;
    }
  where
    same_word : (b u j : ℕ) → j < l.tile_words b → (o : Option Held) → look_up held b u ≡ o → word_of stored l words (look_up held b u) b u j ≡ word_of stored l words (look_up (held ++ z ∷ []) b u) b u j
    same_word b u j lt (Some x) e = ap (λ o. word_of stored l words o b u j) (e ∙ sym (look_up-push held z b u x e))
    same_word b u j lt None e =
        elim (tile_cases b u z) [
          | inl s ↦
              let is : look_up (held ++ z ∷ []) b u ≡ Some z = look_up-push_none held z b u e ∙ tests b u z (Some z) None s.1 s.2 in
              ap (λ o. word_of stored l words o b u j) e ∙ sym (clean b u z is unmarked j lt) ∙ sym (ap (λ o. word_of stored l words o b u j) is)
          | inr n ↦
              let is : look_up (held ++ z ∷ []) b u ≡ None = look_up-push_none held z b u e ∙ tests_not b u z (Some z) None n.1 in
              ap (λ o. word_of stored l words o b u j) (e ∙ sym is)
        ]

-- ---- a tile that was written to its file
pub look_up-cleaned : (held : List Held) (array tile : ℕ) (h : Held) → look_up held array tile ≡ Some h → look_up (cleaned array tile held) array tile ≡ Some (record h { marked = false })
look_up-cleaned [] array tile h e = absurd (cc)
look_up-cleaned (x ∷ xs) array tile h e =
    elim (tile_cases array tile x) [
      | inl s ↦
          let found : Some x ≡ Some h = sym (tests array tile x (Some x) (look_up xs array tile) s.1 s.2) ∙ e in
          let same : x ≡ h = cc in
          ap (λ v. look_up (if v then record x { marked = false } ∷ xs else x ∷ cleaned array tile xs) array tile) s.0
          ∙ tests array tile x (Some (record x { marked = false })) (look_up xs array tile) s.1 s.2
          ∙ ap (λ (y : Held). Some (record y { marked = false })) same
      | inr n ↦
          ap (λ v. look_up (if v then record x { marked = false } ∷ xs else x ∷ cleaned array tile xs) array tile) n.0
          ∙ tests_not array tile x (Some x) (look_up (cleaned array tile xs) array tile) n.1
          ∙ look_up-cleaned xs array tile h (sym (tests_not array tile x (Some x) (look_up xs array tile) n.1) ∙ e)
    ]

pub look_up-cleaned_other : (held : List Held) (array tile b u : ℕ) → AreOther array tile b u → look_up (cleaned array tile held) b u ≡ look_up held b u
look_up-cleaned_other [] array tile b u other = refl
look_up-cleaned_other (x ∷ xs) array tile b u other =
    elim (tile_cases array tile x) [
      | inl s ↦
          let not_here : x.array ≡ b → x.tile ≡ u → ⊥ = λ a t. other (sym a ∙ s.1) (sym t ∙ s.2) in
          ap (λ v. look_up (if v then record x { marked = false } ∷ xs else x ∷ cleaned array tile xs) b u) s.0
          ∙ tests_not b u x (Some (record x { marked = false })) (look_up xs b u) not_here
          ∙ sym (tests_not b u x (Some x) (look_up xs b u) not_here)
      | inr n ↦
          ap (λ v. look_up (if v then record x { marked = false } ∷ xs else x ∷ cleaned array tile xs) b u) n.0
          ∙ ap (λ o. if is_tile b u x then Some x else o) (look_up-cleaned_other xs array tile b u other)
    ]

free-cleaned : (frame array tile : ℕ) (held : List Held) → IsFree frame held → IsFree frame (cleaned array tile held)
free-cleaned frame array tile [] f = tt
free-cleaned frame array tile (x ∷ xs) f = elim (is_tile array tile x) as (λ v. IsFree frame (if v then record x { marked = false } ∷ xs else x ∷ cleaned array tile xs)) [ true ↦ f | false ↦ (f.0, free-cleaned frame array tile xs f.1) ]

pub apart-cleaned : (frames array tile : ℕ) (held : List Held) → AreApart frames held → AreApart frames (cleaned array tile held)
apart-cleaned frames array tile [] a = tt
apart-cleaned frames array tile (x ∷ xs) a =
    elim (tile_cases array tile x) [
      | inl s ↦ subst (λ v. AreApart frames (if v then record x { marked = false } ∷ xs else x ∷ cleaned array tile xs)) (sym s.0) (a.0, a.1, a.2, a.3)
      | inr n ↦ subst (λ v. AreApart frames (if v then record x { marked = false } ∷ xs else x ∷ cleaned array tile xs)) (sym n.0)
          (look_up-cleaned_other xs array tile x.array x.tile n.1 ∙ a.0, free-cleaned x.frame array tile xs a.1, a.2, apart-cleaned frames array tile xs a.3)
    ]

pub write_kept : (l : Layout) (stored stored' : ℕ → ℕ → ℕ → ℕ) (held held' : List Held) (words : List ℕ) (array tile : ℕ) (h : Held)
    → AreApart l.frames held → AreClean stored l held words → look_up held array tile ≡ Some h
    → held' ≡ cleaned array tile held
    → ((k : ℕ) → k < l.tile_words array → stored' array tile k ≡ slice_index words (place l h.frame + k))
    → ((b u k : ℕ) → AreOther array tile b u → k < l.tile_words b → stored' b u k ≡ stored b u k)
    → IsKept l stored stored' held held' words words
write_kept l stored stored' held held' words array tile h apart clean found is written others =
    subst (λ hs. IsKept l stored stored' held hs words words) (sym is) (record {
      current = λ b u j lt. elim (same_tile array tile b u) [
        | inl s ↦
            ap (λ o. word_of stored' l words o b u j) (look_up_at (cleaned array tile held) array tile b u s.0 s.1 ∙ look_up-cleaned held array tile h found)
            ∙ sym (current_held stored l held words b u j h (look_up_at held array tile b u s.0 s.1 ∙ found))
        | inr n ↦ ap (λ o. word_of stored' l words o b u j) (look_up-cleaned_other held array tile b u n) ∙ either b u j lt n (look_up held b u)
      ];
      apart = apart-cleaned l.frames array tile held apart;
      clean = λ b u x e un k lt. elim (same_tile array tile b u) [
        | inl s ↦
            let here : look_up (cleaned array tile held) b u ≡ Some (record h { marked = false }) = look_up_at (cleaned array tile held) array tile b u s.0 s.1 ∙ look_up-cleaned held array tile h found in
            let both : Some x ≡ Some (record h { marked = false }) = sym e ∙ here in
            let same : x ≡ record h { marked = false } = cc in
            ap (λ (y : Held). slice_index words (place l y.frame + k)) same
            ∙ sym (written k (subst (λ a. k < l.tile_words a) s.0 lt))
            ∙ ap (λ a. stored' a tile k) (sym s.0) ∙ ap (λ t. stored' b t k) (sym s.1)
        | inr n ↦ clean b u x (sym (look_up-cleaned_other held array tile b u n) ∙ e) un k lt ∙ sym (others b u k n lt)
      ];
    })
  where
    either : (b u j : ℕ) → j < l.tile_words b → AreOther array tile b u → (o : Option Held) → word_of stored' l words o b u j ≡ word_of stored l words o b u j
    either b u j lt n None = others b u j n lt
    either b u j lt n (Some x) = refl
