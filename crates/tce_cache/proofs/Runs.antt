-- Runs of tiles: where they stand, and what is written and cleaned of them in one step.
use Rattle.std.proofs.Common.{◌≡◌, ◌∙◌, ℕ, zero, suc, ◌+◌, ◌-◌, ◌*◌, ◌<◌, ◌≤◌, Bool, true, false, List, length, map, slice_get, Option, Some, None, sym, refl, ap, subst, inl, inr, arith}
use Rattle.std.proofs.lemmas.Bool.{cases_lt}
use Rattle.std.proofs.Math.Nat.{mul-le-mul_left, mul-le-mul_right}
use Rattle.tce_space.proofs.Products.{product_positive}
use Rattle.tce_space.specs.Tiling.{Tiling, IsTiling, tile_words, tiles, padded_words}
use Rattle.tce_outside.specs.Files.{Files}
use Rattle.tce_cache.specs.Held.{Held, look_up, cleaned, AreApart}
use Rattle.tce_cache.specs.Frames.{held_at, AreLow}
use Rattle.tce_cache.specs.Current.{place, word_of, current, AreClean}
use Rattle.tce_cache.proofs.Current.{below_found, look_up_at}
use Rattle.tce_cache.proofs.Kept.{look_up-cleaned_other, apart-cleaned}
use Rattle.tce_cache.specs.declared.array.ArrayRef.{ArrayRef}
use Rattle.tce_cache.specs.declared.cache.writing.Run.{Run}
use Rattle.tce_cache.specs.Transfer.{HasFile}
use Rattle.tce_cache.specs.Cache.{State, IsArrayAt, Exists, IsWritable, IsCache, IsReady, HasRoom, words_of_tile, layout, stored}
use Rattle.tce_cache.specs.Touch.{with_held, unmarked, IsSameArrays}
use Rattle.tce_cache.specs.Runs.{IsRun, run_of, run_cleaned, AreCleaned, IsRunWritten}
use Rattle.tce_cache.proofs.Tiles.{at_array, frame_room}
use Rattle.tce_cache.proofs.Lists.{IsPartOf, IsCleaned, same_frame, cleaned_unmarked, length-cleaned, cleaned_part, unmarked_cleaned, one_cleaned}
use Rattle.tce_cache.proofs.Steps.{cache_part, has_after, same_trans, same_cleaned}

-- ---- lists of which the marks of a run are taken away
-- the tiles behind stay
pub run_rest : (a t n i : ℕ) (held : List Held) → n ≤ i → look_up (run_cleaned a t n held) a (t + i) ≡ look_up held a (t + i)
run_rest a t zero i held le = refl
run_rest a t (suc n) i held le = look_up-cleaned_other (run_cleaned a t n held) a (t + n) a (t + i) (λ _ e. omega arith) ∙ run_rest a t n i held (omega arith)

pub run_step : (a t n : ℕ) (held : List Held) → run_cleaned a t (n + 1) held ≡ cleaned a (t + n) (run_cleaned a t n held)
run_step a t n held =
    let next : n + 1 ≡ suc n = omega arith in
    ap (λ k. run_cleaned a t k held) next

pub run_part : (a t n : ℕ) (held : List Held) → IsPartOf (run_cleaned a t n held) held
run_part a t zero held b u x e = (x, e, (λ m. m), refl)
run_part a t (suc n) held b u x e =
    let one = cleaned_part a (t + n) (run_cleaned a t n held) b u x e in
    let more = run_part a t n held b u one.0 one.1 in
    (more.0, more.1, (λ m. more.2 (one.2 m)), one.3 ∙ more.3)

pub length-run : (a t n : ℕ) (held : List Held) → length (run_cleaned a t n held) ≡ length held
length-run a t zero held = refl
length-run a t (suc n) held = length-cleaned a (t + n) (run_cleaned a t n held) ∙ length-run a t n held

pub unmarked_run : (a t n : ℕ) (held : List Held) → map unmarked (run_cleaned a t n held) ≡ map unmarked held
unmarked_run a t zero held = refl
unmarked_run a t (suc n) held = unmarked_cleaned a (t + n) (run_cleaned a t n held) ∙ unmarked_run a t n held

apart-run : (frames a t n : ℕ) (held : List Held) → AreApart frames held → AreApart frames (run_cleaned a t n held)
apart-run frames a t zero held apart = apart
apart-run frames a t (suc n) held apart = apart-cleaned frames a (t + n) (run_cleaned a t n held) (apart-run frames a t n held apart)

-- so many frames more without a mark
pub frames_cleaned : (frames frame a t : ℕ) (m : Bool) (held : List Held) (n : ℕ) → AreApart frames held → ((i : ℕ) → i < n → look_up held a (t + i) ≡ Some (held_at a (t + i) (frame + i) m))
    → ((b u : ℕ) (x : Held) → look_up held b u ≡ Some x → x.frame < frame → x.marked ≡ false) → (b u : ℕ) (x : Held) → look_up (run_cleaned a t n held) b u ≡ Some x → x.frame < frame + n → x.marked ≡ false
frames_cleaned frames frame a t m held zero apart there before b u x e lt = before b u x e (omega arith)
frames_cleaned frames frame a t m held (suc n) apart there before b u x e lt =
    let rest = run_cleaned a t n held in
    let h : Held = held_at a (t + n) (frame + n) m in
    let found : look_up rest a (t + n) ≡ Some h = run_rest a t n n held (omega arith) ∙ there n (omega arith) in
    one_cleaned frames (frame + n) rest (cleaned a (t + n) rest) h (apart-run frames a t n held apart) found refl refl
    (frames_cleaned frames frame a t m held n apart (λ i lt. there i (omega arith)) before) b u x e (omega arith)

-- one tile
pub none_cleaned : (held : List Held) (frame a t : ℕ) (m : Bool) → look_up held a t ≡ Some (held_at a t frame m) → m ≡ false → AreCleaned frame 1 held held
none_cleaned held frame a t m found un = record {
  array = a;
  tile = t;
  marked = m;
  held = λ i lt.
      let tile_is : t ≡ t + i = omega arith in
      let frame_is : frame ≡ frame + i = omega arith in
      subst (λ u. look_up held a u ≡ Some (held_at a u (frame + i) m)) tile_is (found ∙ ap (λ f. Some (held_at a t f m)) frame_is);
  list =
      let tile_is : t + 0 ≡ t = omega arith in
      sym (ap (λ u. cleaned a u held) tile_is ∙ cleaned_unmarked held a t (held_at a t frame m) found un);
}

-- the tiles of a run
pub are_cleaned : (c : State) (frame : ℕ) (run : Run) (new : List Held) → IsRun c run → run.frame ≡ frame → new ≡ run_cleaned run.array run.tile run.n c.held → AreCleaned frame run.n c.held new
are_cleaned c frame run new is same list = record {
  array = run.array;
  tile = run.tile;
  marked = true;
  held = λ i lt. subst (λ f. look_up c.held run.array (run.tile + i) ≡ Some (held_at run.array (run.tile + i) (f + i) true)) same (is.held i lt);
  list = list;
}

pub frame_cleaned : (frames frame n : ℕ) (held new : List Held) → AreApart frames held → 0 < n → n ≤ 1 → AreCleaned frame n held new → IsCleaned held new frame
frame_cleaned frames frame n held new apart some one are a t h found at =
    let n_is : n ≡ 1 = omega arith in
    let tile_is : are.tile + 0 ≡ are.tile = omega arith in
    let frame_is : frame + 0 ≡ frame = omega arith in
    let first : look_up held are.array are.tile ≡ Some (held_at are.array are.tile frame are.marked) =
    subst (λ u. look_up held are.array u ≡ Some (held_at are.array u frame are.marked)) tile_is (are.held 0 some ∙ ap (λ f. Some (held_at are.array (are.tile + 0) f are.marked)) frame_is) in
    let same = same_frame frames held are.array are.tile a t (held_at are.array are.tile frame are.marked) h apart first found at in
    are.list
    ∙ ap (λ k. run_cleaned are.array are.tile k held) n_is
    ∙ ap (λ u. cleaned are.array u held) tile_is
    ∙ ap (λ i. cleaned i are.tile held) (sym same.0)
    ∙ ap (λ u. cleaned a u held) (sym same.1)

-- ---- which tiles are a run
pub run_of_one : (c : State) (frame a t : ℕ) (m : Bool) → look_up c.held a t ≡ Some (held_at a t frame m) → m ≡ true → IsRun c (record { array = a; tile = t; frame = frame; n = 1 })
run_of_one c frame a t m found marked = record {
  some = omega arith;
  held = λ i lt.
      let tile_is : t ≡ t + i = omega arith in
      let frame_is : frame ≡ frame + i = omega arith in
      subst (λ u. look_up c.held a u ≡ Some (held_at a u (frame + i) true)) tile_is (found ∙ ap (λ b. Some (held_at a t frame b)) marked ∙ ap (λ f. Some (held_at a t f true)) frame_is);
  close = λ i lt.
      let first : 0 ≡ i = omega arith in
      subst (λ k. words_of_tile (slice_get c.arrays a) * k ≡ k * c.frame_words) first (omega arith);
}

pub run_more : (c : State) (run : Run) (next a t : ℕ) (m : Bool) → IsRun c run → words_of_tile (slice_get c.arrays run.array) ≡ c.frame_words → look_up c.held a t ≡ Some (held_at a t next m)
    → next ≡ run.frame + run.n → m ≡ true → a ≡ run.array → t ≡ run.tile + run.n → IsRun c (run_of run (run.n + 1))
run_more c run next a t m r fill found next_is mark a_is t_is = record {
  some = omega arith;
  held = λ i lt. elim (cases_lt i run.n) [
    | inl low ↦ r.held i low
    | inr high ↦
        let is : run.n ≡ i = omega arith in
        subst (λ j. look_up c.held run.array (run.tile + j) ≡ Some (held_at run.array (run.tile + j) (run.frame + j) true)) is here
  ];
  close = λ i lt. ap (λ w. w * i) fill ∙ omega arith;
}
  where
    here : look_up c.held run.array (run.tile + run.n) ≡ Some (held_at run.array (run.tile + run.n) (run.frame + run.n) true)
    here =
        ap (λ x. look_up c.held x (run.tile + run.n)) (sym a_is)
        ∙ ap (look_up c.held a) (sym t_is)
        ∙ found
        ∙ ap (λ f. Some (held_at a t f m)) next_is
        ∙ ap (λ b. Some (held_at a t (run.frame + run.n) b)) mark
        ∙ ap (λ x. Some (held_at x t (run.frame + run.n) true)) a_is
        ∙ ap (λ x. Some (held_at run.array x (run.frame + run.n) true)) t_is

-- ---- where a run stands
pub run_exists : (c : State) (run : Run) → IsCache c → IsRun c run → Exists c run.array run.tile
run_exists c run is r =
    let tile_is : run.tile + 0 ≡ run.tile = omega arith in
    subst (Exists c run.array) tile_is (is.exist run.array (run.tile + 0) _ (r.held 0 r.some))

pub run_writable : (c : State) (run : Run) → IsCache c → IsRun c run → IsWritable c run.array
run_writable c run is r = is.marked run.array (run.tile + 0) _ (r.held 0 r.some) refl

pub run_has_file : (c : State) (run : Run) (fs : Files) (words : List ℕ) → IsReady c fs words → IsRun c run → IsArrayAt c.arrays run.array (λ a. HasFile a fs)
run_has_file c run fs words ready r = ready.files_of_held run.array (run.tile + 0) _ (r.held 0 r.some)

-- the frames that hold tiles are the first ones
pub run_below : (c : State) (run : Run) → IsRun c run → AreLow c.held → run.frame + run.n ≤ length c.held
run_below c run r low =
    let some = r.some in
    let last = low run.array (run.tile + (run.n - 1)) _ (r.held (run.n - 1) (omega arith)) in
    omega arith

pub tiles_few : (s : Tiling) → IsTiling s → tiles s ≤ padded_words s
tiles_few s t =
    let some : 1 ≤ tile_words s = product_positive s.edges t.positive in
    let more : 1 * tiles s ≤ tile_words s * tiles s = mul-le-mul_right (tiles s) some in
    omega arith

pub run_tiles : (c : State) (a : ArrayRef) (run : Run) → IsCache c → IsRun c run → slice_get c.arrays run.array ≡ Some a → run.tile + run.n ≤ tiles a.shape
run_tiles c a run is r here =
    let some = r.some in
    let last = r.held (run.n - 1) (omega arith) in
    let low = at_array (λ (x : ArrayRef). run.tile + (run.n - 1) < tiles x.shape) c.arrays run.array a (is.exist run.array (run.tile + (run.n - 1)) _ last) here in
    omega arith

pub run_inside : (c : State) (a : ArrayRef) (run : Run) → IsCache c → IsRun c run → slice_get c.arrays run.array ≡ Some a → tile_words a.shape * run.tile + tile_words a.shape * run.n ≤ padded_words a.shape
run_inside c a run is r here =
    let more : tile_words a.shape * (run.tile + run.n) ≤ tile_words a.shape * tiles a.shape = mul-le-mul_left (tile_words a.shape) (run_tiles c a run is r here) in
    omega arith

pub run_low : (c : State) (run : Run) → IsCache c → IsRun c run → run.frame + run.n ≤ c.frames
run_low c run is r =
    let some = r.some in
    let last = r.held (run.n - 1) (omega arith) in
    let low = below_found c.frames c.held run.array (run.tile + (run.n - 1)) _ is.apart last in
    omega arith

pub run_room : (c : State) (words : List ℕ) (run : Run) (n : ℕ) → IsCache c → IsRun c run → n ≡ words_of_tile (slice_get c.arrays run.array) → n ≤ c.frame_words → HasRoom c words → place (layout c) run.frame + n * run.n ≤ length words
run_room c words run n is r n_is le room =
    let some = r.some in
    let last : ℕ = run.n - 1 in
    let low = run_low c run is r in
    let count : run.n ≡ last + 1 = omega arith in
    let all : n * run.n ≡ n * (last + 1) = ap (λ m. n * m) count in
    let close : n * last ≡ last * c.frame_words = ap (λ m. m * last) n_is ∙ r.close last (omega arith) in
    let there = frame_room c words (run.frame + last) n (omega arith) le room in
    omega arith

-- ---- steps
pub cache_run : (c : State) (a t n m : ℕ) → IsCache c → IsCache (with_held c (run_cleaned a t n c.held) m)
cache_run c a t n m is =
    let long = length-run a t n c.held in
    let count = is.count in
    cache_part c (run_cleaned a t n c.held) m is (apart-run c.frames a t n c.held is.apart) (omega arith) (run_part a t n c.held)

-- files of which only marked tiles were written
same_under : (c : State) (fs gs : Files) (words : List ℕ) (run : Run) → IsCache c → IsReady c fs words → IsRun c run → IsRunWritten c fs gs words run → IsSameArrays c (with_held c c.held c.touches) fs gs words words
same_under c fs gs words run is ready r w = record {
  kept = record { current = λ b u j lt. by_tile b u j lt (look_up c.held b u) refl; apart = is.apart; clean = clean };
  ready = record { files_of_held = λ b u x e. has_after c fs gs b w.fronts (ready.files_of_held b u x e); clean = clean };
  fronts = w.fronts;
  bytes = w.bytes;
}
  where
    clean : AreClean (stored c gs) (layout c) c.held words
    clean b u x e un k lt = ready.clean b u x e un k lt ∙ sym (w.others b u k (λ i first eb eu.
        let both : Some x ≡ Some (held_at run.array (run.tile + i) (run.frame + i) true) = sym e ∙ look_up_at c.held run.array (run.tile + i) b u eb eu ∙ r.held i first in
        let is : x ≡ held_at run.array (run.tile + i) (run.frame + i) true = cc in
        let marks : true ≡ false = sym (ap (λ (y : Held). y.marked) is) ∙ un in
        absurd (cc)) lt)

    by_tile : (b u j : ℕ) → j < words_of_tile (slice_get c.arrays b) → (o : Option Held) → look_up c.held b u ≡ o → current (stored c gs) (layout c) c.held words b u j ≡ current (stored c fs) (layout c) c.held words b u j
    by_tile b u j lt None e =
        ap (λ o. word_of (stored c gs) (layout c) words o b u j) e
        ∙ w.others b u j (λ i first eb eu.
        let both : None ≡ Some (held_at run.array (run.tile + i) (run.frame + i) true) = sym e ∙ look_up_at c.held run.array (run.tile + i) b u eb eu ∙ r.held i first in
        absurd (cc)) lt
        ∙ sym (ap (λ o. word_of (stored c fs) (layout c) words o b u j) e)
    by_tile b u j lt (Some x) e = ap (λ o. word_of (stored c gs) (layout c) words o b u j) e ∙ sym (ap (λ o. word_of (stored c fs) (layout c) words o b u j) e)

-- the first tiles of a run, whose marks are taken away after all were written
tiles_cleaned : (c : State) (fs gs : Files) (words : List ℕ) (run : Run) → IsCache c → IsReady c fs words → IsRun c run → IsRunWritten c fs gs words run → (n : ℕ) → n ≤ run.n
    → IsSameArrays c (with_held c (run_cleaned run.array run.tile n c.held) c.touches) fs gs words words
tiles_cleaned c fs gs words run is ready r w zero le = same_under c fs gs words run is ready r w
tiles_cleaned c fs gs words run is ready r w (suc n) le =
    let before = tiles_cleaned c fs gs words run is ready r w n (omega arith) in
    let held = run_cleaned run.array run.tile n c.held in
    let found : look_up held run.array (run.tile + n) ≡ Some (held_at run.array (run.tile + n) (run.frame + n) true) = run_rest run.array run.tile n n c.held (omega arith) ∙ r.held n (omega arith) in
    let next = same_cleaned (with_held c held c.touches) c.touches gs words run.array (run.tile + n) (held_at run.array (run.tile + n) (run.frame + n) true) (cache_run c run.array run.tile n c.touches is) before.ready found (λ k lt. w.here n k (omega arith) lt) in
    same_trans c held (cleaned run.array (run.tile + n) held) c.touches c.touches fs gs gs words words words before next

pub same_run : (c : State) (fs gs : Files) (words : List ℕ) (run : Run) → IsCache c → IsReady c fs words → IsRun c run → IsRunWritten c fs gs words run → IsSameArrays c (with_held c (run_cleaned run.array run.tile run.n c.held) c.touches) fs gs words words
same_run c fs gs words run is ready r w = tiles_cleaned c fs gs words run is ready r w run.n (omega arith)
