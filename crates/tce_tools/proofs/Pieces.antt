-- Words of a file that are read or written in one piece.
use Rattle.std.proofs.Common.{◌≡◌, ◌∙◌, ℕ, ◌+◌, ◌*◌, ◌/◌, ◌%◌, ◌^◌, ◌<◌, ◌≤◌, List, [], ◌∷◌, ◌++◌, length, take, drop, slice_index, get_or, refl, sym, ap, arith}
use Rattle.std.specs.List.{flat_map}
use Rattle.std.proofs.Math.Seq.{take-append-add}
use Rattle.std.proofs.lemmas.List.{get_or-take, get_or-drop, drop_at, drop-drop}
use Rattle.std.proofs.lemmas.List.Concat.{flat_map-append}
use Rattle.byteorder.specs.Endian.{little_bytes}
use Rattle.byteorder.proofs.Slices.{write_step}
use Rattle.tce_base.specs.Word.{word_bytes}
use Rattle.tce_base.proofs.WordBytes.{length-words, drop-words}
use Rattle.tce_space.proofs.Tilings.{word-lt}
use Rattle.tce_outside.specs.Files.{overwritten}
use Rattle.tce_array.specs.declared.form.Form.{Form}
use Rattle.tce_array.specs.Forms.{width, word_in}
use Rattle.tce_array.proofs.WordBytes.{word_in_same, take-words}

-- a word of a part is a word of the whole
pub word_of_piece : (form : Form) (bs piece : List ℕ) (at n k : ℕ) → k < n → piece ≡ take (width form * n) (drop at bs) → word_in form (drop (width form * k) piece) ≡ word_in form (drop (at + width form * k) bs)
word_of_piece form bs piece at n k h is =
    ap (λ p. word_in form (drop (width form * k) p)) is
    ∙ word_in_same form _ _ (λ i l.
    let w : ℕ = width form in
    let inside : w * k + i < w * n = word-lt w n k i h l in
    let there : at + w * k + i ≡ at + (w * k + i) = omega arith in
    get_or-drop (w * k) (take (w * n) (drop at bs)) i 0
    ∙ get_or-take (w * n) (drop at bs) (w * k + i) 0 inside
    ∙ get_or-drop at bs (w * k + i) 0
    ∙ ap (slice_index bs) (sym there)
    ∙ sym (get_or-drop (at + w * k) bs i 0))

-- words written over words
pub words_written : (w h : ℕ) (start ws vs : List ℕ) (from : ℕ) → length start ≡ h
    → overwritten (start ++ flat_map (word_bytes w) ws) (h + w * from) (flat_map (word_bytes w) vs) ≡ start ++ flat_map (word_bytes w) (overwritten ws from vs)
words_written w h start ws vs from len =
    let all : List ℕ = flat_map (word_bytes w) ws in
    let at : h + w * from ≡ length start + w * from = omega arith in
    let end : h + w * from + length (flat_map (word_bytes w) vs) ≡ w * (from + length vs) + h = omega (arith, length-words w vs) in
    let front : take (h + w * from) (start ++ all) ≡ start ++ flat_map (word_bytes w) (take from ws) =
    ap (λ n. take n (start ++ all)) at ∙ take-append-add start all (w * from) ∙ ap (λ l. start ++ l) (take-words w ws from) in
    let more : w * (from + length vs) + h ≡ h + w * (from + length vs) = omega arith in
    let back : drop (h + w * from + length (flat_map (word_bytes w) vs)) (start ++ all) ≡ flat_map (word_bytes w) (drop (from + length vs) ws) =
    ap (λ n. drop n (start ++ all)) (end ∙ more) ∙ sym (drop-drop (w * (from + length vs)) h (start ++ all)) ∙ ap (drop (w * (from + length vs))) (drop_at start all h len) ∙ drop-words w ws (from + length vs) in
    ap (λ l. (l ++ flat_map (word_bytes w) vs) ++ drop (h + w * from + length (flat_map (word_bytes w) vs)) (start ++ all)) front
    ∙ ap (λ l. ((start ++ flat_map (word_bytes w) (take from ws)) ++ flat_map (word_bytes w) vs) ++ l) back
    ∙ join start (flat_map (word_bytes w) (take from ws)) (flat_map (word_bytes w) vs) (flat_map (word_bytes w) (drop (from + length vs) ws))
    ∙ ap (λ l. start ++ (l ++ flat_map (word_bytes w) (drop (from + length vs) ws))) (sym (flat_map-append (word_bytes w) (take from ws) vs))
    ∙ ap (λ l. start ++ l) (sym (flat_map-append (word_bytes w) (take from ws ++ vs) (drop (from + length vs) ws)))
  where
    join : (a b c d : List ℕ) → ((a ++ b) ++ c) ++ d ≡ a ++ ((b ++ c) ++ d)
    join [] b c d = refl
    join (x ∷ a) b c d = ap (λ l. x ∷ l) (join a b c d)

-- the lowest four bytes of words
abbrev pub low_bytes : ℕ → List ℕ
low_bytes w = little_bytes 4 (w % 2 ^ 32)

low_four : (w : ℕ) → low_bytes w ≡ word_bytes 4 w
unfolding word_bytes
low_four w =
    let a : w % 2 ^ 32 % 256 ≡ w % 256 = omega arith in
    let b : w % 2 ^ 32 / 256 % 256 ≡ w / 256 % 256 = omega arith in
    let c : w % 2 ^ 32 / 65536 % 256 ≡ w / 65536 % 256 = omega arith in
    let d : w % 2 ^ 32 / 16777216 % 256 ≡ w / 16777216 % 256 = omega arith in
    cc

pub low_words : (ws : List ℕ) → flat_map low_bytes ws ≡ flat_map (word_bytes 4) ws
low_words [] = refl
low_words (w ∷ ws) = ap (λ l. l ++ flat_map low_bytes ws) (low_four w) ∙ ap (λ l. word_bytes 4 w ++ l) (low_words ws)

-- one word more is written
pub low_more : (ws bytes rest new post : List ℕ) (k : ℕ) → 4 * k ≤ length bytes → k < length ws → new ≡ low_bytes (get_or ws k 0) ++ rest → take (4 * k) bytes ≡ flat_map low_bytes (take k ws)
    → take (4 * (k + 1)) (take (4 * k) bytes ++ (new ++ post)) ≡ flat_map low_bytes (take (k + 1) ws)
low_more ws bytes rest new post k room l is before =
    let e : 4 * (k + 1) ≡ 4 * k + 4 = omega arith in
    ap (λ b. take (4 * (k + 1)) (take (4 * k) bytes ++ (b ++ post))) is
    ∙ ap (λ n. take n (take (4 * k) bytes ++ ((low_bytes (get_or ws k 0) ++ rest) ++ post))) e
    ∙ write_step low_bytes 4 ws 0 bytes (low_bytes (get_or ws k 0)) rest post k room l refl refl before

-- what was read, by other words
pub piece_is : (bs piece : List ℕ) (m at n place : ℕ) → piece ≡ take m (drop at bs) → m ≡ n → at ≡ place → piece ≡ take n (drop place bs)
piece_is bs piece m at n place e l p = e ∙ ap (λ i. take i (drop at bs)) l ∙ ap (λ i. take n (drop i bs)) p
