-- Words and their bytes.
use Rattle.std.proofs.Common.{◌≡◌, ℕ, zero, suc, ◌+◌, ◌*◌, ◌^◌, ◌<◌, ◌≤◌, List, [], ◌∷◌, ◌++◌, length, slice_index, inl, inr, take, drop, sym, refl, ◌∙◌, ap, arith, w64, length-append}
use Rattle.std.specs.List.{flat_map}
use Rattle.std.specs.Int.{from_le_bytes, bytes_low_first}
use Rattle.std.proofs.lemmas.List.{length-take-le, get_or-take, get_or_past, drop_at, drop-drop, drop_all}
use Rattle.std.proofs.lemmas.Bool.{cases_lt}
use Rattle.std.proofs.lemmas.Nat.{le_bytes_8}
use Rattle.byteorder.specs.Endian.{little_number}
use Rattle.tce_base.specs.Word.{word_bytes, word_of_bytes}

-- the number in the first eight bytes, as `u64::from_le_bytes` makes it
little_number_is : (bs : List ℕ) → little_number 8 bs ≡ from_le_bytes w64 (take 8 bs)
little_number_is bs =
    let same : (i : ℕ) → i < 8 → slice_index (take 8 bs) i ≡ slice_index bs i = λ i lt. get_or-take 8 bs i 0 lt in
    omega (arith, same 0 (omega arith), same 1 (omega arith), same 2 (omega arith), same 3 (omega arith), same 4 (omega arith), same 5 (omega arith), same 6 (omega arith), same 7 (omega arith))

taken : (bs : List ℕ) → 7 < length bs → ((i : ℕ) → slice_index bs i < 256) → (i : ℕ) → slice_index (take 8 bs) i < 256
taken bs room fits i =
    elim (cases_lt i 8) [
      | inl within ↦ rw (get_or-take 8 bs i 0 within) (fits i)
      | inr past ↦ rw (get_or_past (take 8 bs) i 0 (omega (arith, length-take-le 8 bs (omega arith)))) (omega arith)
    ]

-- the first eight bytes are those of their word
pub bytes_of_word : (bs : List ℕ) → 8 ≤ length bs → ((i : ℕ) → slice_index bs i < 256) → word_bytes 8 (word_of_bytes 8 bs) ≡ take 8 bs
unfolding word_bytes word_of_bytes
bytes_of_word bs room fits =
    le_bytes_8 (take 8 bs) (little_number 8 bs) (length-take-le 8 bs (omega arith)) (taken bs (omega arith) fits) (little_number_is bs)

-- the bytes of a word spell it
pub word_of_word_bytes : (w : ℕ) (rest : List ℕ) → w < 2 ^ 64 → word_of_bytes 8 (word_bytes 8 w ++ rest) ≡ w
unfolding word_bytes word_of_bytes
word_of_word_bytes w rest h = omega arith

-- a word has as many bytes as it is wide
pub length-word_bytes : (n w : ℕ) → length (word_bytes n w) ≡ n
unfolding word_bytes
length-word_bytes n w = length_low 0 n w
  where
    length_low : (i n w : ℕ) → length (bytes_low_first i n w) ≡ n
    length_low i zero w = refl
    length_low i (suc n) w = ap suc (length_low (suc i) n w)

-- the bytes of words
pub length-words : (n : ℕ) (ws : List ℕ) → length (flat_map (word_bytes n) ws) ≡ n * length ws
length-words n [] = omega arith
length-words n (w ∷ ws) =
    let rest = length-words n ws in
    let both = length-append (word_bytes n w) (flat_map (word_bytes n) ws) in
    let here = length-word_bytes n w in
    omega arith

-- what stands from the k-th word on
pub drop-words : (n : ℕ) (ws : List ℕ) (k : ℕ) → drop (n * k) (flat_map (word_bytes n) ws) ≡ flat_map (word_bytes n) (drop k ws)
drop-words n ws zero = let none : n * 0 ≡ 0 = omega arith in ap (λ i. drop i (flat_map (word_bytes n) ws)) none
drop-words n [] (suc k) = drop_all {X = ℕ} (n * suc k) [] (omega arith)
drop-words n (w ∷ ws) (suc k) =
    let more : n * suc k ≡ n + n * k = omega arith in
    ap (λ i. drop i (word_bytes n w ++ flat_map (word_bytes n) ws)) more
    ∙ sym (drop-drop (n * k) n (word_bytes n w ++ flat_map (word_bytes n) ws))
    ∙ ap (drop (n * k)) (drop_at (word_bytes n w) (flat_map (word_bytes n) ws) n (length-word_bytes n w))
    ∙ drop-words n ws k
