-- Words of a file and their bytes.
use Rattle.std.proofs.Common.{◌≡◌, ℕ, zero, suc, ◌+◌, ◌*◌, ◌<◌, List, [], ◌∷◌, ◌++◌, length, take, drop, sym, refl, ◌∙◌, ap, arith, get_or, slice_index}
use Rattle.std.specs.List.{flat_map}
use Rattle.std.proofs.lemmas.List.{drop_at, drop-drop, take_all}
use Rattle.std.proofs.Math.Seq.{take-append-add}
use Rattle.tce_base.specs.Word.{word_bytes, word_of_bytes, widened}
use Rattle.tce_base.proofs.WordBytes.{length-word_bytes}
use Rattle.tce_array.specs.Forms.{word_in, width, Fits}
use Rattle.tce_array.specs.declared.form.Form.{Form}
use Rattle.tce_array.specs.declared.form.Form.TheVariants.{One, Narrow, Wide}

-- only the first bytes count
word_in_first : (form : Form) (w : ℕ) (rest : List ℕ) → word_in form (word_bytes (width form) w ++ rest) ≡ word_in form (word_bytes (width form) w)
unfolding word_bytes word_of_bytes word_in
word_in_first One w rest = refl
word_in_first Narrow w rest = refl
word_in_first Wide w rest = refl

-- the k-th word of the bytes of words
pub word_of_words : (form : Form) (ws : List ℕ) (k : ℕ) → k < length ws → Fits form (get_or ws k 0) → word_in form (drop (width form * k) (flat_map (word_bytes (width form)) ws)) ≡ get_or ws k 0
word_of_words form [] k h fits = absurd (omega arith)
word_of_words form (w ∷ ws) zero h fits =
    ap (λ i. word_in form (drop i (word_bytes (width form) w ++ flat_map (word_bytes (width form)) ws))) (zero_times (width form))
    ∙ word_in_first form w (flat_map (word_bytes (width form)) ws) ∙ fits
  where
    zero_times : (n : ℕ) → n * 0 ≡ 0
    zero_times n = omega arith
word_of_words form (w ∷ ws) (suc k) h fits =
    let n = width form in
    let all = flat_map (word_bytes n) ws in
    let more : n * suc k ≡ n + n * k = omega arith in
    ap (λ i. word_in form (drop i (word_bytes n w ++ all))) more
    ∙ ap (word_in form) (sym (drop-drop (n * k) n (word_bytes n w ++ all)))
    ∙ ap (λ bs. word_in form (drop (n * k) bs)) (drop_at (word_bytes n w) all n (length-word_bytes n w))
    ∙ word_of_words form ws k (omega arith) fits

-- words of which the first bytes are the same
eight_same : (xs ys : List ℕ) → ((i : ℕ) → i < 8 → slice_index xs i ≡ slice_index ys i) → word_of_bytes 8 xs ≡ word_of_bytes 8 ys
unfolding word_of_bytes
eight_same xs ys same = omega (arith, same 0 (omega arith), same 1 (omega arith), same 2 (omega arith), same 3 (omega arith), same 4 (omega arith), same 5 (omega arith), same 6 (omega arith), same 7 (omega arith))

four_same : (xs ys : List ℕ) → ((i : ℕ) → i < 4 → slice_index xs i ≡ slice_index ys i) → word_of_bytes 4 xs ≡ word_of_bytes 4 ys
unfolding word_of_bytes
four_same xs ys same = omega (arith, same 0 (omega arith), same 1 (omega arith), same 2 (omega arith), same 3 (omega arith))

pub word_in_same : (form : Form) (xs ys : List ℕ) → ((i : ℕ) → i < width form → slice_index xs i ≡ slice_index ys i) → word_in form xs ≡ word_in form ys
unfolding word_in
word_in_same One xs ys same = eight_same xs ys same
word_in_same Narrow xs ys same = ap widened (four_same xs ys same)
word_in_same Wide xs ys same = eight_same xs ys same

-- the bytes of the first words
pub take-words : (n : ℕ) (ws : List ℕ) (k : ℕ) → take (n * k) (flat_map (word_bytes n) ws) ≡ flat_map (word_bytes n) (take k ws)
take-words n ws zero = let none : n * 0 ≡ 0 = omega arith in ap (λ i. take i (flat_map (word_bytes n) ws)) none
take-words n [] (suc k) = take_all (n * suc k) [] (omega arith)
take-words n (w ∷ ws) (suc k) =
    let more : n * suc k ≡ length (word_bytes n w) + n * k = omega (arith, length-word_bytes n w) in
    ap (λ i. take i (word_bytes n w ++ flat_map (word_bytes n) ws)) more
    ∙ take-append-add (word_bytes n w) (flat_map (word_bytes n) ws) (n * k)
    ∙ ap (λ l. word_bytes n w ++ l) (take-words n ws k)
