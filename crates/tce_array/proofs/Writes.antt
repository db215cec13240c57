-- Words written over a part of a file.
use Rattle.std.proofs.Common.{◌≡◌, ◌≢◌, ◌∙◌, ◌⊎◌, ℕ, suc, ◌+◌, ◌*◌, ◌<◌, ◌≤◌, List, ◌++◌, length, take, drop, sym, ap, inl, inr, arith, slice_index, length-append}
use Rattle.std.specs.Prelude.{EachIndex}
use Rattle.std.specs.List.{flat_map}
use Rattle.std.proofs.lemmas.Bool.{cases_lt}
use Rattle.std.proofs.Math.Nat.{mul-le-mul_left}
use Rattle.std.proofs.lemmas.List.{get_or-take, get_or-drop, length-take-le, take-append-le, take-take}
use Rattle.tce_base.specs.Word.{word_bytes}
use Rattle.tce_base.proofs.WordBytes.{length-words}
use Rattle.tce_outside.proofs.Overwrites.{length-overwritten, get_or-overwritten, get_or-overwritten_other}
use Rattle.tce_space.specs.Box.{IsInside}
use Rattle.tce_space.specs.Tiling.{Tiling, IsTiling, tile_words, tiles, padded_words, word_number, tile_number, place_in_tile}
use Rattle.tce_space.proofs.Tilings.{place_in_tile-lt, word_number-lt, word-lt}
use Rattle.tce_array.specs.declared.form.Form.{Form}
use Rattle.tce_array.specs.Forms.{width, word_in, head_len, form_len, IsForm, Fits, cell, word_place, word_at}
use Rattle.tce_array.specs.Files.{bytes_of_run, with_words, ChangesWords}
use Rattle.tce_array.proofs.WordBytes.{word_in_same, word_of_words}

-- the words of a part
pub word_of_part : (form : Form) (s : Tiling) (bytes : List ℕ) (from n k : ℕ) → k < n → word_in form (drop (width form * k) (bytes_of_run form s bytes from n)) ≡ word_at form s bytes (from + k)
word_of_part form s bytes from n k h = word_in_same form _ _ (λ i l.
    let w : ℕ = width form in
    let inside : w * k + i < w * n = word-lt w n k i h l in
    let place : word_place form s from + (w * k + i) ≡ word_place form s (from + k) + i = omega arith in
    get_or-drop (w * k) (bytes_of_run form s bytes from n) i 0
    ∙ get_or-take (w * n) (drop (word_place form s from) bytes) (w * k + i) 0 inside
    ∙ get_or-drop (word_place form s from) bytes (w * k + i) 0
    ∙ ap (slice_index bytes) place
    ∙ sym (get_or-drop (word_place form s (from + k)) bytes i 0))

-- words over a part of a file of the right length, whatever stands in the place of its head
pub record IsOver (form : Form) (s : Tiling) (old : List ℕ) (from : ℕ) (ws new : List ℕ) : Type 0 where
  pub len : length new ≡ length old
  pub head : take (head_len form s) new ≡ take (head_len form s) old
  pub stored : (k : ℕ) → k < length ws → Fits form (slice_index ws k) → word_at form s new (from + k) ≡ slice_index ws k
  pub others : (k : ℕ) → (k < from) ⊎ (from + length ws ≤ k) → word_at form s new k ≡ word_at form s old k

pub bytes_over : (form : Form) (s : Tiling) (old : List ℕ) (from : ℕ) (ws : List ℕ) → length old ≡ form_len form s → from + length ws ≤ padded_words s → IsOver form s old from ws (with_words form s old from ws)
bytes_over form s old from ws whole le = record {
  len = length-overwritten old at all room;
  head = head_still;
  stored = λ k lt fits.
      word_in_same form _ (drop (w * k) all) (λ i low.
      let place : word_place form s (from + k) + i ≡ at + (w * k + i) = omega arith in
      let within : w * k + i < length all = omega (arith, len, word-lt w (length ws) k i lt low) in
      get_or-drop (word_place form s (from + k)) new i 0
      ∙ ap (slice_index new) place
      ∙ get_or-overwritten old at all (w * k + i) room within
      ∙ sym (get_or-drop (w * k) all i 0))
      ∙ word_of_words form ws k lt fits;
  others = λ k out.
      word_in_same form _ _ (λ i low.
      get_or-drop (word_place form s k) new i 0
      ∙ get_or-overwritten_other old at all (word_place form s k + i) room
      (elim out [
        | inl below ↦ inl (let x : w * k + i < w * from = word-lt w from k i below low in omega arith)
        | inr past ↦ inr (let x : w * (from + length ws) ≤ w * k = mul-le-mul_left w past in omega (arith, len))
      ])
      ∙ sym (get_or-drop (word_place form s k) old i 0));
}
  where
    w : ℕ
    w = width form

    at : ℕ
    at = word_place form s from

    all : List ℕ
    all = flat_map (word_bytes (width form)) ws

    new : List ℕ
    new = with_words form s old from ws

    len : length (flat_map (word_bytes (width form)) ws) ≡ width form * length ws
    len = length-words (width form) ws

    room : word_place form s from + length (flat_map (word_bytes (width form)) ws) ≤ length old
    room =
        let inside : width form * (from + length ws) ≤ width form * padded_words s = mul-le-mul_left (width form) le in
        omega (arith, len, whole)

    head_still : take (head_len form s) (with_words form s old from ws) ≡ take (head_len form s) old
    head_still =
        let before : length (take at old) ≡ at = length-take-le at old (omega (arith, room)) in
        let first = length-append (take at old) all in
        take-append-le (head_len form s) (take at old ++ all) (drop (at + length all) old) (omega arith)
        ∙ take-append-le (head_len form s) (take at old) all (omega arith)
        ∙ take-take (head_len form s) at old (omega arith)

pub writes_change : (form : Form) (s : Tiling) (bytes : List ℕ) (from : ℕ) (ws : List ℕ) → IsForm form s bytes → from + length ws ≤ padded_words s → ChangesWords form s bytes from ws (with_words form s bytes from ws)
writes_change form s bytes from ws h l =
    let over = bytes_over form s bytes from ws h.whole l in
    record {
      has_form = record { whole = over.len ∙ h.whole; begins = over.head ∙ h.begins };
      stored = over.stored;
      others = λ k lt out. over.others k out;
    }

-- a tile that is written
pub tile_written : (form : Form) (s : Tiling) (bytes : List ℕ) (tile : ℕ) (ws : List ℕ) → IsTiling s → IsForm form s bytes → tile < tiles s → length ws ≡ tile_words s
    → EachIndex ws (λ k. Fits form (slice_index ws k)) → (xs : List ℕ) → IsInside s.extents xs
    → (tile_number s xs ≡ tile → cell form s (with_words form s bytes (tile_words s * tile) ws) xs ≡ slice_index ws (place_in_tile s xs))
    × (tile_number s xs ≢ tile → cell form s (with_words form s bytes (tile_words s * tile) ws) xs ≡ cell form s bytes xs)
tile_written form s bytes tile ws t h low len fits xs inside = (
  (λ e.
      let is : tile_words s * tile + place_in_tile s xs ≡ word_number s xs = ap (λ n. tile_words s * n + place_in_tile s xs) (sym e) in
      ap (word_at form s new) (sym is) ∙ change.stored (place_in_tile s xs) within (fits (place_in_tile s xs) within)),
  (λ ne. change.others (word_number s xs) (word_number-lt s xs t.same_rank t.positive inside) (elim (cases_lt (tile_number s xs) tile) [
    | inl below ↦ inl (word-lt (tile_words s) tile (tile_number s xs) (place_in_tile s xs) below (place_in_tile-lt s xs t.same_rank t.positive inside))
    | inr above ↦ inr (let next : suc tile ≤ tile_number s xs = omega arith in let more : tile_words s * suc tile ≤ tile_words s * tile_number s xs = mul-le-mul_left (tile_words s) next in omega (arith, len))
  ])),
)
  where
    new : List ℕ
    new = with_words form s bytes (tile_words s * tile) ws

    within : place_in_tile s xs < length ws
    within = omega (arith, len, place_in_tile-lt s xs t.same_rank t.positive inside)

    room : tile_words s * tile + length ws ≤ padded_words s
    room =
        let next : suc tile ≤ tiles s = omega arith in
        let more : tile_words s * suc tile ≤ tile_words s * tiles s = mul-le-mul_left (tile_words s) next in
        omega (arith, len)

    change : ChangesWords form s bytes (tile_words s * tile) ws (with_words form s bytes (tile_words s * tile) ws)
    change = writes_change form s bytes (tile_words s * tile) ws h room
