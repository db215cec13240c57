-- Lists of held tiles under the steps of a cache.
use Rattle.std.proofs.Common.{◌≡◌, ◌∙◌, ◌⊎◌, ℕ, suc, ◌+◌, ◌<◌, Bool, true, false, if◌then◌else◌, List, [], ◌∷◌, ◌++◌, length, map, Option, Some, None, sym, refl, ap, subst, inl, inr, arith}
use Rattle.std.proofs.lemmas.Bool.{cases_eq, false_from_ne_true}
use Rattle.tce_cache.specs.Touch.{unmarked}
use Rattle.tce_cache.specs.Held.{Held, is_tile, look_up, without, cleaned, touched, IsFree, AreApart}
use Rattle.tce_cache.proofs.Current.{tile_cases, tests, tests_not, same_tile, frames_differ, look_up_without, look_up_taken, below_found, look_up_at, free_taken, apart_without}
use Rattle.tce_cache.proofs.Kept.{look_up-cleaned, look_up-push, look_up-push_none, last_found, last_free, none_in_front}
use Rattle.tce_cache.proofs.Touching.{touches_change}

-- a list of which each tile is in another, and is marked only where it is marked there
abbrev pub IsPartOf : List Held → List Held → Type 0
IsPartOf held' held = (b u : ℕ) (x : Held) → look_up held' b u ≡ Some x → (y : Held) × (look_up held b u ≡ Some y) × (x.marked ≡ true → y.marked ≡ true) × (x.frame ≡ y.frame)

-- a tile in the same frame is the same tile
pub same_frame : (frames : ℕ) (held : List Held) (a t b u : ℕ) (g h : Held) → AreApart frames held → look_up held a t ≡ Some g → look_up held b u ≡ Some h → h.frame ≡ g.frame → (b ≡ a) × (u ≡ t)
same_frame frames held a t b u g h apart e f at = elim (same_tile a t b u) [ inl s ↦ s | inr n ↦ absurd (frames_differ frames held a t b u g h apart e f n at) ]

-- ---- a mark that is taken away
pub cleaned_unmarked : (held : List Held) (a t : ℕ) (h : Held) → look_up held a t ≡ Some h → h.marked ≡ false → cleaned a t held ≡ held
cleaned_unmarked [] a t h e m = refl
cleaned_unmarked (x ∷ xs) a t h e m =
    elim (tile_cases a t x) [
      | inl s ↦
          let found : Some x ≡ Some h = sym (tests a t x (Some x) (look_up xs a t) s.1 s.2) ∙ e in
          let same : x ≡ h = cc in
          ap (λ v. if v then record x { marked = false } ∷ xs else x ∷ cleaned a t xs) s.0
          ∙ ap (λ m. record x { marked = m } ∷ xs) (sym (ap (λ (y : Held). y.marked) same ∙ m))
      | inr n ↦
          ap (λ v. if v then record x { marked = false } ∷ xs else x ∷ cleaned a t xs) n.0
          ∙ ap (λ l. x ∷ l) (cleaned_unmarked xs a t h (sym (tests_not a t x (Some x) (look_up xs a t) n.1) ∙ e) m)
    ]

pub length-cleaned : (a t : ℕ) (held : List Held) → length (cleaned a t held) ≡ length held
length-cleaned a t [] = refl
length-cleaned a t (x ∷ xs) = elim (is_tile a t x) as (λ v. length (if v then record x { marked = false } ∷ xs else x ∷ cleaned a t xs) ≡ suc (length xs)) [ true ↦ refl | false ↦ ap suc (length-cleaned a t xs) ]

pub cleaned_part : (a t : ℕ) (held : List Held) → IsPartOf (cleaned a t held) held
cleaned_part a t [] b u x e = absurd (cc)
cleaned_part a t (y ∷ ys) b u x e =
    elim (tile_cases a t y) [
      | inl s ↦
          let found : look_up (record y { marked = false } ∷ ys) b u ≡ Some x = ap (λ v. look_up (if v then record y { marked = false } ∷ ys else y ∷ cleaned a t ys) b u) (sym s.0) ∙ e in
          elim (tile_cases b u y) [
            | inl r ↦
                let is : Some (record y { marked = false }) ≡ Some x = sym (tests b u y (Some (record y { marked = false })) (look_up ys b u) r.1 r.2) ∙ found in
                let same : record y { marked = false } ≡ x = cc in
                (y, tests b u y (Some y) (look_up ys b u) r.1 r.2, (λ m. let both : false ≡ true = ap (λ (z : Held). z.marked) same ∙ m in absurd (cc)), ap (λ (z : Held). z.frame) (sym same))
            | inr n ↦
                let later : look_up ys b u ≡ Some x = sym (tests_not b u y (Some (record y { marked = false })) (look_up ys b u) n.1) ∙ found in
                (x, tests_not b u y (Some y) (look_up ys b u) n.1 ∙ later, (λ m. m), refl)
          ]
      | inr n ↦
          let found : look_up (y ∷ cleaned a t ys) b u ≡ Some x = ap (λ v. look_up (if v then record y { marked = false } ∷ ys else y ∷ cleaned a t ys) b u) (sym n.0) ∙ e in
          elim (tile_cases b u y) [
            | inl r ↦
                let is : Some y ≡ Some x = sym (tests b u y (Some y) (look_up (cleaned a t ys) b u) r.1 r.2) ∙ found in
                let same : y ≡ x = cc in
                (y, tests b u y (Some y) (look_up ys b u) r.1 r.2, (λ m. ap (λ (z : Held). z.marked) same ∙ m), ap (λ (z : Held). z.frame) (sym same))
            | inr k ↦
                let more = cleaned_part a t ys b u x (sym (tests_not b u y (Some y) (look_up (cleaned a t ys) b u) k.1) ∙ found) in
                (more.0, tests_not b u y (Some y) (look_up ys b u) k.1 ∙ more.1, more.2, more.3)
          ]
    ]

none_part : (held' held : List Held) (b u : ℕ) → IsPartOf held' held → look_up held b u ≡ None → look_up held' b u ≡ None
none_part held' held b u part none = by_found (look_up held' b u) refl
  where
    by_found : (o : Option Held) → look_up held' b u ≡ o → look_up held' b u ≡ None
    by_found None e = e
    by_found (Some x) e =
        let there = part b u x e in
        let both : Some there.0 ≡ None = sym there.1 ∙ none in
        absurd (cc)

-- ---- the last tile
pub last_split : (held : List Held) → 0 < length held → (rest : List Held) × (z : Held) × (held ≡ rest ++ z ∷ [])
last_split [] l = absurd (omega arith)
last_split (x ∷ []) l = ([], x, refl)
last_split (x ∷ y ∷ ys) l = let more = last_split (y ∷ ys) (omega arith) in (x ∷ more.0, more.1, ap (λ l. x ∷ l) more.2)

pub last_there : (frames : ℕ) (rest : List Held) (z : Held) → AreApart frames (rest ++ z ∷ []) → look_up (rest ++ z ∷ []) z.array z.tile ≡ Some z
last_there frames rest z apart = look_up-push_none rest z z.array z.tile (last_found frames rest z apart) ∙ tests z.array z.tile z (Some z) None refl refl

is_self : (z : Held) → is_tile z.array z.tile z ≡ true
is_self z = elim (tile_cases z.array z.tile z) [ inl s ↦ s.0 | inr n ↦ absurd (n.1 refl refl) ]

not_self : (y : Held) (ys : List Held) (a t : ℕ) → look_up (y ∷ ys) a t ≡ None → (is_tile a t y ≡ false) × (look_up ys a t ≡ None)
not_self y ys a t none =
    elim (tile_cases a t y) [
      | inl s ↦ (let both : Some y ≡ None = sym (tests a t y (Some y) (look_up ys a t) s.1 s.2) ∙ none in absurd (cc))
      | inr n ↦ (n.0, sym (tests_not a t y (Some y) (look_up ys a t) n.1) ∙ none)
    ]

cleaned_last : (rest : List Held) (z : Held) → look_up rest z.array z.tile ≡ None → cleaned z.array z.tile (rest ++ z ∷ []) ≡ rest ++ record z { marked = false } ∷ []
cleaned_last [] z none = ap (λ v. if v then record z { marked = false } ∷ [] else z ∷ []) (is_self z)
cleaned_last (y ∷ ys) z none =
    let not = not_self y ys z.array z.tile none in
    ap (λ v. if v then record y { marked = false } ∷ (ys ++ z ∷ []) else y ∷ cleaned z.array z.tile (ys ++ z ∷ [])) not.0
    ∙ ap (λ l. y ∷ l) (cleaned_last ys z not.1)

without_last : (rest : List Held) (z : Held) → look_up rest z.array z.tile ≡ None → without z.array z.tile (rest ++ z ∷ []) ≡ rest
without_last [] z none = ap (λ v. if v then [] else z ∷ []) (is_self z)
without_last (y ∷ ys) z none =
    let not = not_self y ys z.array z.tile none in
    ap (λ v. if v then ys ++ z ∷ [] else y ∷ without z.array z.tile (ys ++ z ∷ [])) not.0
    ∙ ap (λ l. y ∷ l) (without_last ys z not.1)

pub front_part : (rest : List Held) (z : Held) → IsPartOf rest (rest ++ z ∷ [])
front_part rest z b u x e = (x, look_up-push rest z b u x e, (λ m. m), refl)

-- the last tile is given up for another
pub record IsGivenUp (frames : ℕ) (held first second : List Held) (g : Held) : Type 0 where
  pub rest : List Held
  pub z : Held
  pub held_is : held ≡ rest ++ z ∷ []
  pub first_is : first ≡ rest ++ record z { marked = false } ∷ []
  pub second_is : second ≡ g ∷ rest
  pub absent : look_up rest g.array g.tile ≡ None
  pub free : IsFree g.frame rest
  pub low : g.frame < frames
  pub list : touched frames held g ≡ g ∷ rest

abbrev pub IsOldest : List Held → ℕ → Type 0
IsOldest held frame = (rest : List Held) (z : Held) → held ≡ rest ++ z ∷ [] → frame ≡ z.frame

abbrev pub IsCleaned : List Held → List Held → ℕ → Type 0
IsCleaned held first frame = (a t : ℕ) (h : Held) → look_up held a t ≡ Some h → h.frame ≡ frame → first ≡ cleaned a t held

-- before the frame of the last tile is given to another, the tile is still there, without its mark
pub oldest_there : (frames : ℕ) (held first : List Held) (frame : ℕ) → AreApart frames held → 0 < length held → IsOldest held frame → IsCleaned held first frame
    → (h : Held) × (look_up first h.array h.tile ≡ Some h) × (h.frame ≡ frame)
oldest_there frames held first frame apart some oldest clean =
    let last = last_split held some in
    let rest = last.0 in
    let z = last.1 in
    let apart_last : AreApart frames (rest ++ z ∷ []) = subst (AreApart frames) last.2 apart in
    let found : look_up held z.array z.tile ≡ Some z = ap (λ l. look_up l z.array z.tile) last.2 ∙ last_there frames rest z apart_last in
    let is : first ≡ rest ++ record z { marked = false } ∷ [] = clean z.array z.tile z found (sym (oldest rest z last.2)) ∙ ap (cleaned z.array z.tile) last.2 ∙ cleaned_last rest z (last_found frames rest z apart_last) in
    let here : look_up (rest ++ record z { marked = false } ∷ []) z.array z.tile ≡ Some (record z { marked = false }) =
    look_up-push_none rest (record z { marked = false }) z.array z.tile (last_found frames rest z apart_last) ∙ tests z.array z.tile z (Some (record z { marked = false })) None refl refl in
    (record z { marked = false }, ap (λ l. look_up l z.array z.tile) is ∙ here, sym (oldest rest z last.2))

pub oldest_absent : (frames : ℕ) (held first : List Held) (frame b u : ℕ) → AreApart frames held → 0 < length held → IsOldest held frame → IsCleaned held first frame → look_up held b u ≡ None → look_up first b u ≡ None
oldest_absent frames held first frame b u apart some oldest clean none =
    let last = last_split held some in
    let rest = last.0 in
    let z = last.1 in
    let apart_last : AreApart frames (rest ++ z ∷ []) = subst (AreApart frames) last.2 apart in
    let found : look_up held z.array z.tile ≡ Some z = ap (λ l. look_up l z.array z.tile) last.2 ∙ last_there frames rest z apart_last in
    ap (λ l. look_up l b u) (clean z.array z.tile z found (sym (oldest rest z last.2))) ∙ none_part (cleaned z.array z.tile held) held b u (cleaned_part z.array z.tile held) none

pub given_up : (frames : ℕ) (held first second : List Held) (frame : ℕ) (g : Held) → AreApart frames held → 0 < length held → length held ≡ frames → IsOldest held frame → IsCleaned held first frame
    → look_up held g.array g.tile ≡ None → g.frame ≡ frame → ((a t : ℕ) (h : Held) → look_up first a t ≡ Some h → h.frame ≡ frame → second ≡ g ∷ without a t first) → IsGivenUp frames held first second g
given_up frames held first second frame g apart some full oldest clean none at replaced =
    let last = last_split held some in
    let rest = last.0 in
    let z = last.1 in
    let y : Held = record z { marked = false } in
    let apart_last : AreApart frames (rest ++ z ∷ []) = subst (AreApart frames) last.2 apart in
    let gone : look_up rest z.array z.tile ≡ None = last_found frames rest z apart_last in
    let found : look_up held z.array z.tile ≡ Some z = ap (λ l. look_up l z.array z.tile) last.2 ∙ last_there frames rest z apart_last in
    let is : first ≡ rest ++ y ∷ [] = clean z.array z.tile z found (sym (oldest rest z last.2)) ∙ ap (cleaned z.array z.tile) last.2 ∙ cleaned_last rest z gone in
    let here : look_up first z.array z.tile ≡ Some y = ap (λ l. look_up l z.array z.tile) is ∙ look_up-push_none rest y z.array z.tile gone ∙ tests z.array z.tile z (Some y) None refl refl in
    let none_last : look_up (rest ++ z ∷ []) g.array g.tile ≡ None = ap (λ l. look_up l g.array g.tile) (sym last.2) ∙ none in
    let frame_is : z.frame ≡ g.frame = sym (oldest rest z last.2) ∙ sym at in
    record {
      rest = rest;
      z = z;
      held_is = last.2;
      first_is = is;
      second_is = replaced z.array z.tile y here (sym (oldest rest z last.2)) ∙ ap (λ l. g ∷ without z.array z.tile l) is ∙ ap (λ l. g ∷ l) (without_last rest y gone);
      absent = none_in_front rest z g.array g.tile none_last;
      free = subst (λ f. IsFree f rest) frame_is (last_free frames rest z apart_last);
      low = subst (λ f. f < frames) frame_is (below_found frames held z.array z.tile z apart found);
      list = ap (λ l. touched frames l g) last.2 ∙ touches_change.full frames rest z g (ap length (sym last.2) ∙ full) none_last;
    }

-- ---- a held tile that comes to the front
pub touched_part : (frames : ℕ) (held : List Held) (a t : ℕ) (g h : Held) → AreApart frames held → look_up held a t ≡ Some h → g.array ≡ a → g.tile ≡ t
    → (b u : ℕ) (x : Held) → look_up (g ∷ without a t held) b u ≡ Some x → ((b ≡ a) × (u ≡ t) × (x ≡ g)) ⊎ (look_up held b u ≡ Some x)
touched_part frames held a t g h apart found ga gt b u x e =
    elim (tile_cases b u g) [
      | inl s ↦
          let is : Some g ≡ Some x = sym (tests b u g (Some g) (look_up (without a t held) b u) s.1 s.2) ∙ e in
          let same : x ≡ g = cc in
          inl (sym s.1 ∙ ga, sym s.2 ∙ gt, same)
      | inr n ↦
          let later : look_up (without a t held) b u ≡ Some x = sym (tests_not b u g (Some g) (look_up (without a t held) b u) n.1) ∙ e in
          inr (sym (look_up_without held a t b u (λ eb eu. n.1 (ga ∙ sym eb) (gt ∙ sym eu))) ∙ later)
    ]

pub touched_apart : (frames : ℕ) (held : List Held) (a t : ℕ) (h g : Held) → AreApart frames held → look_up held a t ≡ Some h → g.array ≡ a → g.tile ≡ t → g.frame ≡ h.frame → AreApart frames (g ∷ without a t held)
touched_apart frames held a t h g apart found ga gt gf = (
  look_up_at (without a t held) a t g.array g.tile ga gt ∙ look_up_taken frames held a t apart,
  subst (λ f. IsFree f (without a t held)) (sym gf) (free_taken frames held a t h apart found),
  subst (λ f. f < frames) (sym gf) (below_found frames held a t h apart found),
  apart_without frames a t held apart,
)

pub marked_as : (h : Held) (a t f : ℕ) (m : Bool) → h.array ≡ a → h.tile ≡ t → h.frame ≡ f → record h { marked = m } ≡ record { array = a; tile = t; frame = f; marked = m }
marked_as h a t f m ea et ef =
    ap (λ i. record { array = i; tile = h.tile; frame = h.frame; marked = m }) ea
    ∙ ap (λ i. record { array = a; tile = i; frame = h.frame; marked = m }) et
    ∙ ap (λ i. record { array = a; tile = t; frame = i; marked = m }) ef

-- ---- all marks taken away
pub unmarked_cleaned : (a t : ℕ) (held : List Held) → map unmarked (cleaned a t held) ≡ map unmarked held
unmarked_cleaned a t [] = refl
unmarked_cleaned a t (x ∷ xs) = elim (is_tile a t x) as (λ v. map unmarked (if v then record x { marked = false } ∷ xs else x ∷ cleaned a t xs) ≡ unmarked x ∷ map unmarked xs) [ true ↦ refl | false ↦ ap (λ l. unmarked x ∷ l) (unmarked_cleaned a t xs) ]

pub all_unmarked : (frames : ℕ) (held : List Held) → AreApart frames held → ((a t : ℕ) (h : Held) → look_up held a t ≡ Some h → h.marked ≡ false) → held ≡ map unmarked held
all_unmarked frames [] apart none = refl
all_unmarked frames (x ∷ xs) apart none =
    let first : x.marked ≡ false = none x.array x.tile x (tests x.array x.tile x (Some x) (look_up xs x.array x.tile) refl refl) in
    let rest : xs ≡ map unmarked xs = all_unmarked frames xs apart.3 (λ a t h e. none a t h (elim (tile_cases a t x) [
      | inl s ↦
          let gone : look_up xs a t ≡ None = ap (λ i. look_up xs i t) (sym s.1) ∙ ap (look_up xs x.array) (sym s.2) ∙ apart.0 in
          let both : Some h ≡ None = sym e ∙ gone in
          absurd (cc)
      | inr n ↦ tests_not a t x (Some x) (look_up xs a t) n.1 ∙ e
    ])) in
    ap (λ m. record x { marked = m } ∷ xs) first ∙ ap (λ l. unmarked x ∷ l) rest

-- one frame more without a mark
pub one_cleaned : (frames n : ℕ) (held new : List Held) (h : Held) → AreApart frames held → look_up held h.array h.tile ≡ Some h → h.frame ≡ n → new ≡ cleaned h.array h.tile held
    → ((a t : ℕ) (x : Held) → look_up held a t ≡ Some x → x.frame < n → x.marked ≡ false) → (a t : ℕ) (x : Held) → look_up new a t ≡ Some x → x.frame < n + 1 → x.marked ≡ false
one_cleaned frames n held new h apart found at is before a t x e lt =
    let here : look_up (cleaned h.array h.tile held) a t ≡ Some x = ap (λ l. look_up l a t) (sym is) ∙ e in
    let part = cleaned_part h.array h.tile held a t x here in
    elim (cases_eq part.0.frame n) [
      | inl f ↦
          let same = same_frame frames held h.array h.tile a t h part.0 apart found part.1 (f ∙ sym at) in
          let gone : look_up (cleaned h.array h.tile held) h.array h.tile ≡ Some (record h { marked = false }) = look_up-cleaned held h.array h.tile h found in
          let both : Some x ≡ Some (record h { marked = false }) = sym here ∙ ap (λ i. look_up (cleaned h.array h.tile held) i t) same.0 ∙ ap (look_up (cleaned h.array h.tile held) h.array) same.1 ∙ gone in
          let x_is : x ≡ record h { marked = false } = cc in
          ap (λ (z : Held). z.marked) x_is
      | inr m ↦
          let frame = part.3 in
          let low : part.0.frame < n = omega arith in
          let unmarked_before : part.0.marked ≡ false = before a t part.0 part.1 low in
          false_from_ne_true x.marked (λ k. let both : true ≡ false = sym (part.2 k) ∙ unmarked_before in absurd (cc))
    ]
