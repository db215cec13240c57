-- The steps of a cache: each keeps the current words, and leaves the cache ready for the next.
use Rattle.std.proofs.Common.{◌≡◌, ◌∙◌, ℕ, ◌+◌, ◌<◌, ◌≤◌, true, false, List, [], ◌∷◌, ◌++◌, length, drop, slice_get, slice_index, Option, Some, None, sym, refl, ap, subst, inl, inr, arith, length-append}
use Rattle.std.specs.Option.{IsSomeAnd, option_map}
use Rattle.tce_outside.specs.Files.{Files, file}
use Rattle.tce_array.specs.Forms.{form_len}
use Rattle.tce_cache.specs.Held.{Held, look_up, without, cleaned, IsFree, AreApart}
use Rattle.tce_cache.specs.Current.{place, word_of, current, TilesFit, IsSameOutside}
use Rattle.tce_cache.specs.Table.{Holding}
use Rattle.tce_cache.proofs.Current.{tile_cases, tests, tests_not, current_held}
use Rattle.tce_cache.proofs.Kept.{touch_kept, load_kept, drop_kept, write_kept, apart-cleaned, apart-front}
use Rattle.tce_cache.specs.declared.array.ArrayRef.{ArrayRef}
use Rattle.tce_cache.specs.Transfer.{HasFile}
use Rattle.tce_cache.specs.Cache.{State, IsArrayAt, Exists, IsWritable, IsCache, IsReady, words_of_tile, layout, stored, current_word, OnlyWritableDiffers}
use Rattle.tce_cache.specs.Touch.{with_held, front, IsSameArrays, IsPlaced}
use Rattle.tce_cache.proofs.Lists.{IsPartOf, IsOldest, IsCleaned, IsGivenUp, cleaned_part, front_part, length-cleaned, touched_part, given_up}

-- ---- what always holds of a cache
pub cache_part : (c : State) (held : List Held) (n : ℕ) → IsCache c → AreApart c.frames held → length held ≤ c.frames → IsPartOf held c.held → IsCache (with_held c held n)
cache_part c held n is apart count part = record {
  arrays = is.arrays;
  frames = is.frames;
  apart = apart;
  count = count;
  exist = λ a t x e. is.exist a t ((part a t x e).0) ((part a t x e).1);
  marked = λ a t x e m. is.marked a t ((part a t x e).0) ((part a t x e).1) ((part a t x e).2 m);
}

pub cache_cleaned : (c : State) (a t n : ℕ) → IsCache c → IsCache (with_held c (cleaned a t c.held) n)
cache_cleaned c a t n is =
    let long = length-cleaned a t c.held in
    let count = is.count in
    cache_part c (cleaned a t c.held) n is (apart-cleaned c.frames a t c.held is.apart) (omega arith) (cleaned_part a t c.held)

pub cache_front : (c : State) (g : Held) (rest : List Held) (n : ℕ) → IsCache (with_held c rest n) → look_up rest g.array g.tile ≡ None → IsFree g.frame rest → g.frame < c.frames → length rest < c.frames
    → Exists c g.array g.tile → (g.marked ≡ true → IsWritable c g.array) → IsCache (with_held c (g ∷ rest) n)
cache_front c g rest n is absent free low room exists writable = record {
  arrays = is.arrays;
  frames = is.frames;
  apart = (absent, free, low, is.apart);
  count = omega arith;
  exist = λ a t x e. elim (tile_cases a t g) [
    | inl s ↦ subst (λ i. Exists c i t) s.1 (subst (λ i. Exists c g.array i) s.2 exists)
    | inr m ↦ is.exist a t x (sym (tests_not a t g (Some g) (look_up rest a t) m.1) ∙ e)
  ];
  marked = λ a t x e mark. elim (tile_cases a t g) [
    | inl s ↦
        let found : Some g ≡ Some x = sym (tests a t g (Some g) (look_up rest a t) s.1 s.2) ∙ e in
        let same : g ≡ x = cc in
        subst (IsWritable c) s.1 (writable (ap (λ (y : Held). y.marked) same ∙ mark))
    | inr m ↦ is.marked a t x (sym (tests_not a t g (Some g) (look_up rest a t) m.1) ∙ e) mark
  ];
}

-- a table that holds one tile more
pub cache_held : (v now : State) (r : Holding) (g : Held) → IsCache v → v ≡ now → r.frames ≡ v.frames → r.held ≡ g ∷ v.held → length v.held < v.frames → look_up now.held g.array g.tile ≡ None → IsFree g.frame v.held → g.frame < v.frames
    → Exists now g.array g.tile → (g.marked ≡ true → IsWritable now g.array) → IsCache (record v { frames = r.frames; held = r.held })
cache_held v now r g is same frames held room absent free low exists writable =
    let more : IsCache (with_held v (g ∷ v.held) v.touches) =
    cache_front v g v.held v.touches is (subst (λ (z : State). look_up z.held g.array g.tile ≡ None) (sym same) absent) free low room
    (subst (λ (z : State). Exists z g.array g.tile) (sym same) exists) (λ m. subst (λ (z : State). IsWritable z g.array) (sym same) (writable m)) in
    subst (λ l. IsCache (record v { frames = r.frames; held = l })) (sym held) (subst (λ f. IsCache (record v { frames = f; held = g ∷ v.held })) (sym frames) more)

pub holding_is : (now : Holding) (frames arrays : ℕ) (held : List Held) → now.frames ≡ frames → now.arrays ≡ arrays → now.held ≡ held → record { frames = frames; arrays = arrays; held = held } ≡ now
holding_is now frames arrays held ef ea eh =
    let all : now ≡ record { frames = frames; arrays = arrays; held = held } =
    ap (λ f. record { frames = f; arrays = now.arrays; held = now.held }) ef
    ∙ ap (λ a. record { frames = frames; arrays = a; held = now.held }) ea
    ∙ ap (λ h. record { frames = frames; arrays = arrays; held = h }) eh in
    sym all

-- ---- files keep their lengths
pub front_has : (a : ArrayRef) (old new : Option (List ℕ)) → option_map (front a) new ≡ option_map (front a) old → IsSomeAnd old (λ bytes. length bytes ≡ form_len a.form a.shape) → IsSomeAnd new (λ bytes. length bytes ≡ form_len a.form a.shape)
front_has a None new e h = absurd h
front_has a (Some old) None e h = absurd (none e)
  where
    none : None ≡ Some (front a old) → ⊥
    none e = absurd (cc)
front_has a (Some old) (Some new) e h =
    let same : front a new ≡ front a old = cc in
    ap (λ (p : ℕ × List ℕ). p.0) same ∙ h

pub has_after : (c : State) (before after : Files) (i : ℕ) → ((j : ℕ) (a : ArrayRef) → slice_get c.arrays j ≡ Some a → option_map (front a) (file after a.file.bytes) ≡ option_map (front a) (file before a.file.bytes))
    → IsArrayAt c.arrays i (λ a. HasFile a before) → IsArrayAt c.arrays i (λ a. HasFile a after)
has_after c before after i fronts h = by_array (slice_get c.arrays i) refl h
  where
    by_array : (o : Option ArrayRef) → slice_get c.arrays i ≡ o → IsSomeAnd o (λ a. HasFile a before) → IsSomeAnd o (λ a. HasFile a after)
    by_array None e h = h
    by_array (Some a) e h = front_has a (file before a.file.bytes) (file after a.file.bytes) (fronts i a e) h

-- ---- steps
pub same_trans : (c : State) (h1 h2 : List Held) (n1 n2 : ℕ) (fs gs hs : Files) (w w1 w2 : List ℕ) → IsSameArrays c (with_held c h1 n1) fs gs w w1 → IsSameArrays (with_held c h1 n1) (with_held c h2 n2) gs hs w1 w2 → IsSameArrays c (with_held c h2 n2) fs hs w w2
same_trans c h1 h2 n1 n2 fs gs hs w w1 w2 first second = record {
  kept = record {
    current = λ b u j lt. second.kept.current b u j lt ∙ first.kept.current b u j lt;
    apart = second.kept.apart;
    clean = second.kept.clean;
  };
  ready = second.ready;
  fronts = λ i a e. second.fronts i a e ∙ first.fronts i a e;
  bytes = λ i a e are. second.bytes i a e (first.bytes i a e are);
}

pub same_stay : (c : State) (n : ℕ) (fs : Files) (words : List ℕ) → IsCache c → IsReady c fs words → IsSameArrays c (with_held c c.held n) fs fs words words
same_stay c n fs words is ready = record {
  kept = record { current = λ b u j lt. refl; apart = is.apart; clean = ready.clean };
  ready = record { files_of_held = ready.files_of_held; clean = ready.clean };
  fronts = λ i a e. refl;
  bytes = λ i a e are. are;
}

-- a mark is taken away of a tile whose file has its words
pub same_cleaned : (c : State) (n : ℕ) (fs : Files) (words : List ℕ) (a t : ℕ) (h : Held) → IsCache c → IsReady c fs words → look_up c.held a t ≡ Some h → ((k : ℕ) → k < words_of_tile (slice_get c.arrays a) → stored c fs a t k ≡ slice_index words (place (layout c) h.frame + k))
    → IsSameArrays c (with_held c (cleaned a t c.held) n) fs fs words words
same_cleaned c n fs words a t h is ready found here =
    let kept = write_kept (layout c) (stored c fs) (stored c fs) c.held (cleaned a t c.held) words a t h is.apart ready.clean found refl here (λ b u k other lt. refl) in
    record {
      kept = kept;
      ready = record {
        files_of_held = λ b u x e. ready.files_of_held b u ((cleaned_part a t c.held b u x e).0) ((cleaned_part a t c.held b u x e).1);
        clean = kept.clean;
      };
      fronts = λ i a e. refl;
      bytes = λ i a e are. are;
    }

pub same_dropped : (c : State) (rest : List Held) (z : Held) (n m : ℕ) (fs : Files) (words : List ℕ) → AreApart c.frames (rest ++ z ∷ []) → z.marked ≡ false → IsReady (with_held c (rest ++ z ∷ []) n) fs words
    → IsSameArrays (with_held c (rest ++ z ∷ []) n) (with_held c rest m) fs fs words words
same_dropped c rest z n m fs words apart unmarked ready =
    let kept = drop_kept (layout c) (stored c fs) rest z words apart ready.clean unmarked in
    record {
      kept = kept;
      ready = record {
        files_of_held = λ b u x e. ready.files_of_held b u ((front_part rest z b u x e).0) ((front_part rest z b u x e).1);
        clean = kept.clean;
      };
      fronts = λ i a e. refl;
      bytes = λ i a e are. are;
    }

pub tiles_fit : (c : State) → IsCache c → TilesFit (layout c)
tiles_fit c is i = by_array (slice_get c.arrays i) refl
  where
    by_array : (o : Option ArrayRef) → slice_get c.arrays i ≡ o → words_of_tile (slice_get c.arrays i) ≤ c.frame_words
    by_array None e = subst (λ v. words_of_tile v ≤ c.frame_words) (sym e) (omega arith)
    by_array (Some a) e = subst (λ v. words_of_tile v ≤ c.frame_words) (sym e) (is.arrays.fit i a e)

pub same_loaded : (c : State) (rest : List Held) (g : Held) (n m : ℕ) (fs : Files) (old new : List ℕ) → IsCache c → AreApart c.frames rest → IsReady (with_held c rest n) fs old
    → look_up rest g.array g.tile ≡ None → IsFree g.frame rest → g.frame < c.frames → IsArrayAt c.arrays g.array (λ a. HasFile a fs) → IsSameOutside (layout c) g.frame old new
    → ((k : ℕ) → k < words_of_tile (slice_get c.arrays g.array) → slice_index new (place (layout c) g.frame + k) ≡ stored c fs g.array g.tile k)
    → IsSameArrays (with_held c rest n) (with_held c (g ∷ rest) m) fs fs old new
same_loaded c rest g n m fs old new is apart ready absent free low has outside loaded =
    let kept = load_kept (layout c) (stored c fs) rest old new g (tiles_fit c is) apart ready.clean absent free low outside loaded in
    record {
      kept = kept;
      ready = record {
        files_of_held = λ b u x e. elim (tile_cases b u g) [
          | inl s ↦ subst (λ i. IsArrayAt c.arrays i (λ a. HasFile a fs)) s.1 has
          | inr d ↦ ready.files_of_held b u x (sym (tests_not b u g (Some g) (look_up rest b u) d.1) ∙ e)
        ];
        clean = kept.clean;
      };
      fronts = λ i a e. refl;
      bytes = λ i a e are. are;
    }

pub same_touched : (c : State) (a t n : ℕ) (h g : Held) (fs : Files) (words : List ℕ) → IsCache c → IsReady c fs words → look_up c.held a t ≡ Some h → g.array ≡ a → g.tile ≡ t → g.frame ≡ h.frame → (g.marked ≡ false → h.marked ≡ false)
    → IsSameArrays c (with_held c (g ∷ without a t c.held) n) fs fs words words
same_touched c a t n h g fs words is ready found ga gt gf gm =
    let kept = touch_kept (layout c) (stored c fs) c.held words a t h g is.apart ready.clean found ga gt gf gm in
    record {
      kept = kept;
      ready = record {
        files_of_held = λ b u x e. elim (touched_part c.frames c.held a t g h is.apart found ga gt b u x e) [
          | inl s ↦ subst (λ i. IsArrayAt c.arrays i (λ y. HasFile y fs)) (sym s.0) (ready.files_of_held a t h found)
          | inr later ↦ ready.files_of_held b u x later
        ];
        clean = kept.clean;
      };
      fronts = λ i y e. refl;
      bytes = λ i y e are. are;
    }

pub cache_touched : (c : State) (a t n : ℕ) (h g : Held) → IsCache c → look_up c.held a t ≡ Some h → g.array ≡ a → g.tile ≡ t → (g.marked ≡ true → IsWritable c a) → AreApart c.frames (g ∷ without a t c.held) → length (g ∷ without a t c.held) ≤ c.frames
    → IsCache (with_held c (g ∷ without a t c.held) n)
cache_touched c a t n h g is found ga gt writable apart count = record {
  arrays = is.arrays;
  frames = is.frames;
  apart = apart;
  count = count;
  exist = λ b u x e. elim (touched_part c.frames c.held a t g h is.apart found ga gt b u x e) [
    | inl s ↦ subst (λ i. Exists c i u) (sym s.0) (subst (λ i. Exists c a i) (sym s.1) (is.exist a t h found))
    | inr later ↦ is.exist b u x later
  ];
  marked = λ b u x e mark. elim (touched_part c.frames c.held a t g h is.apart found ga gt b u x e) [
    | inl s ↦ subst (IsWritable c) (sym s.0) (writable (ap (λ (y : Held). y.marked) (sym s.2) ∙ mark))
    | inr later ↦ is.marked b u x later mark
  ];
}

-- the tile in front is shown at its place
pub shown_front : (c : State) (g : Held) (rest : List Held) (n : ℕ) (fs gs : Files) (words words' : List ℕ) (a t : ℕ) → g.array ≡ a → g.tile ≡ t → IsSameArrays c (with_held c (g ∷ rest) n) fs gs words words'
    → (k : ℕ) → k < words_of_tile (slice_get c.arrays a) → slice_index words' (place (layout c) g.frame + k) ≡ current_word c fs words a t k
shown_front c g rest n fs gs words words' a t ga gt same k lt =
    let found : look_up (g ∷ rest) a t ≡ Some g = tests a t g (Some g) (look_up rest a t) ga gt in
    sym (current_held (stored c gs) (layout c) (g ∷ rest) words' a t k g found) ∙ same.kept.current a t k lt

-- ---- a frame for another tile
pub up_over : (s w v : State) (second : List Held) (frame : ℕ) (g : Held) → IsCache s → s.frames ≤ length s.held → IsOldest s.held frame → IsCleaned s.held w.held frame → v ≡ w → look_up s.held g.array g.tile ≡ None → g.frame ≡ frame
    → ((a t : ℕ) (h : Held) → look_up v.held a t ≡ Some h → h.frame ≡ frame → second ≡ g ∷ without a t v.held) → IsGivenUp s.frames s.held v.held second g
up_over s w v second frame g is full oldest clean view none at replaced =
    let count = is.count in
    let some = is.frames in
    given_up s.frames s.held v.held second frame g is.apart (omega arith) (omega arith) oldest (λ a t h found there. ap (λ (z : State). z.held) view ∙ clean a t h found there) none at replaced

pub cache_over : (s : State) (first second : List Held) (g : Held) → IsCache s → IsGivenUp s.frames s.held first second g → Exists s g.array g.tile → (g.marked ≡ true → IsWritable s g.array) → IsCache (with_held s second s.touches)
cache_over s first second g is up exists writable =
    let apart : AreApart s.frames (up.rest ++ up.z ∷ []) = subst (AreApart s.frames) up.held_is is.apart in
    let count : length s.held ≡ length up.rest + 1 = ap length up.held_is ∙ length-append up.rest (up.z ∷ []) in
    let within = is.count in
    let part : IsPartOf up.rest s.held = subst (IsPartOf up.rest) (sym up.held_is) (front_part up.rest up.z) in
    let rest : IsCache (with_held s up.rest s.touches) = cache_part s up.rest s.touches is (apart-front s.frames up.rest up.z apart) (omega arith) part in
    subst (λ l. IsCache (with_held s l s.touches)) (sym up.second_is) (cache_front s g up.rest s.touches rest up.absent up.free up.low (omega arith) exists writable)

pub state_over : (s w v : State) (r : Holding) (held : List Held) → v ≡ w → w ≡ with_held s w.held s.touches → r.frames ≡ v.frames → r.held ≡ held → record v { frames = r.frames; held = r.held } ≡ with_held s held s.touches
state_over s w v r held view same frames is =
    ap (λ f. record v { frames = f; held = r.held }) frames
    ∙ ap (λ l. record v { held = l }) is
    ∙ ap (λ (z : State). record z { held = held }) (view ∙ same)

pub same_over : (s w v : State) (second : List Held) (g : Held) (fs gs : Files) (words : List ℕ) → IsCache s → IsGivenUp s.frames s.held v.held second g → v ≡ w → w ≡ with_held s w.held s.touches → IsSameArrays s w fs gs words words
    → IsSameArrays s (with_held s (drop 1 second) s.touches) fs gs words words
same_over s w v second g fs gs words is up view same arrays =
    let y : Held = record up.z { marked = false } in
    let held_is : w.held ≡ up.rest ++ y ∷ [] = sym (ap (λ (z : State). z.held) view) ∙ up.first_is in
    let w_is : w ≡ with_held s (up.rest ++ y ∷ []) s.touches = same ∙ ap (λ l. with_held s l s.touches) held_is in
    let first : IsSameArrays s (with_held s (up.rest ++ y ∷ []) s.touches) fs gs words words = subst (λ (z : State). IsSameArrays s z fs gs words words) w_is arrays in
    let second_step = same_dropped s up.rest y s.touches s.touches gs words first.kept.apart refl first.ready in
    let both = same_trans s (up.rest ++ y ∷ []) up.rest s.touches s.touches fs gs gs words words words first second_step in
    subst (λ l. IsSameArrays s (with_held s (drop 1 l) s.touches) fs gs words words) (sym up.second_is) both

-- a tile that is brought into its frame
pub same_brought : (s p : State) (g : Held) (fs gs : Files) (words words' : List ℕ) → IsCache s → IsPlaced s p g → IsSameArrays s (with_held s (drop 1 p.held) s.touches) fs gs words words → IsArrayAt s.arrays g.array (λ a. HasFile a fs)
    → IsSameOutside (layout s) g.frame words words' → ((k : ℕ) → k < words_of_tile (slice_get s.arrays g.array) → slice_index words' (place (layout s) g.frame + k) ≡ stored s gs g.array g.tile k) → IsSameArrays s p fs gs words words'
same_brought s p g fs gs words words' is placed arrays has outside loaded =
    let rest = placed.rest in
    let held_is : p.held ≡ g ∷ rest = ap (λ (z : State). z.held) placed.state in
    let first : IsSameArrays s (with_held s rest s.touches) fs gs words words = subst (λ l. IsSameArrays s (with_held s (drop 1 l) s.touches) fs gs words words) held_is arrays in
    let second = same_loaded s rest g s.touches s.touches gs words words' is first.kept.apart first.ready placed.absent placed.free placed.low (has_after s fs gs g.array first.fronts has) outside loaded in
    subst (λ (z : State). IsSameArrays s z fs gs words words') (sym placed.state) (same_trans s rest (g ∷ rest) s.touches s.touches fs gs gs words words words' first second)

-- how often a cache was touched bears on nothing else
pub ready_again : (c : State) (n : ℕ) (fs : Files) (words : List ℕ) → IsReady c fs words → IsReady (record c { touches = n }) fs words
ready_again c n fs words r = record { files_of_held = r.files_of_held; clean = r.clean }

pub same_again : (c new : State) (n : ℕ) (fs gs : Files) (words words' : List ℕ) → IsSameArrays (record c { touches = n }) new fs gs words words' → IsSameArrays c new fs gs words words'
same_again c new n fs gs words words' s = record { kept = s.kept; ready = s.ready; fronts = s.fronts; bytes = s.bytes }

-- without marks each file has the current words
pub all_written : (c : State) (held : List Held) (n : ℕ) (fs gs : Files) (words : List ℕ) → IsSameArrays c (with_held c held n) fs gs words words → ((a t : ℕ) (h : Held) → look_up held a t ≡ Some h → h.marked ≡ false)
    → (a t k : ℕ) → k < words_of_tile (slice_get c.arrays a) → stored c gs a t k ≡ current_word c fs words a t k
all_written c held n fs gs words same none a t k lt = by_tile (look_up held a t) refl ∙ same.kept.current a t k lt
  where
    by_tile : (o : Option Held) → look_up held a t ≡ o → stored c gs a t k ≡ current (stored c gs) (layout c) held words a t k
    by_tile None e = sym (ap (λ o. word_of (stored c gs) (layout c) words o a t k) e)
    by_tile (Some h) e = sym (same.kept.clean a t h e (none a t h e) k lt) ∙ sym (current_held (stored c gs) (layout c) held words a t k h e)

pub differ_again : (c : State) (held : List Held) (n : ℕ) (old new : Option Files) → OnlyWritableDiffers (with_held c held n) old new → OnlyWritableDiffers c old new
differ_again c held n old new d = record { tells = d.tells; begins = d.begins; same = d.same }
