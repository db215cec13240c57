-- Words whose bytes are stored by blocks of lanes.
use Rattle.std.proofs.Common.{◌≡◌, ℕ, zero, suc, ◌+◌, ◌-◌, ◌*◌, ◌^◌, ◌<◌, ◌≤◌, List, [], ◌∷◌, ◌++◌, length, take, drop, sym, ap, refl, ◌∙◌, arith}
use Rattle.std.specs.List.{flat_map}
use Rattle.std.specs.Simd.Lanes.{Each1, chunk, put_chunk, digits_l, number_l}
use Rattle.std.proofs.lemmas.Grind.{flat_map-append}
use Rattle.std.proofs.lemmas.List.{append-nil, drop_all, take_at, length-drop, length-take-le, take-append-drop}
use Rattle.std.proofs.lemmas.Simd.{length-chunk, chunk-drop}
use Rattle.tce_base.specs.Word.{word_bytes}
use Rattle.tce_base.proofs.WordBytes.{length-words, drop-words}
use Rattle.tce_kernel.proofs.Blocks.{done_to, done_block}

cons : {x y : ℕ} {xs ys : List ℕ} → x ≡ y → xs ≡ ys → x ∷ xs ≡ y ∷ ys
cons {x} {y} {xs} {ys} e f = rw (e, f) refl

-- the lowest eight digits of lanes are the bytes of the first
digits_more : (x r m : ℕ) → x < 2 ^ 64 → digits_l 256 (suc (suc (suc (suc (suc (suc (suc (suc m)))))))) (x + 2 ^ 64 * r) ≡ word_bytes 8 x ++ digits_l 256 m r
unfolding word_bytes
digits_more x r m low =
    cons (omega arith) (cons (omega arith) (cons (omega arith) (cons (omega arith) (cons (omega arith) (cons (omega arith) (cons (omega arith) (cons (omega arith) (ap (digits_l 256 m) (omega arith)))))))))

bytes_of_lanes : (xs : List ℕ) → Each1 (λ x. x < 2 ^ 64) xs → digits_l 256 (8 * length xs) (number_l (2 ^ 64) xs) ≡ flat_map (word_bytes 8) xs
bytes_of_lanes [] low = refl
bytes_of_lanes (x ∷ xs) low =
    let rest : ℕ = number_l (2 ^ 64) xs in
    let more : 8 * suc (length xs) ≡ suc (suc (suc (suc (suc (suc (suc (suc (8 * length xs)))))))) = omega arith in
    ap (λ n. digits_l 256 n (x + 2 ^ 64 * rest)) more ∙ digits_more x rest (8 * length xs) low.0 ∙ ap (λ l. word_bytes 8 x ++ l) (bytes_of_lanes xs low.1)

-- the steps of the loop, and the words behind its last block
pub stored_block : (at m : ℕ) (words old now : List ℕ) → now ≡ done_to (8 * at) (flat_map (word_bytes 8) words) old → length old ≡ 8 * length words → at + 4 ≤ length words → m ≡ 8 * at + 32
    → Each1 (λ x. x < 2 ^ 64) (chunk at 4 words) → put_chunk (8 * at) now (digits_l 256 32 (number_l (2 ^ 64) (chunk at 4 words))) ≡ done_to m (flat_map (word_bytes 8) words) old
stored_block at m words old now is same room next low =
    let lanes = chunk at 4 words in
    let whole = flat_map (word_bytes 8) words in
    let many : 32 ≡ 8 * length lanes = omega (arith, length-chunk at 4 words room) in
    let long : length (flat_map (word_bytes 8) lanes) ≡ 32 = length-words 8 lanes ∙ sym many in
    let here : chunk (8 * at) 32 whole ≡ flat_map (word_bytes 8) lanes =
    (ap (take 32) (drop-words 8 words at ∙ ap (flat_map (word_bytes 8)) (chunk-drop at 4 words) ∙ flat_map-append (word_bytes 8) lanes (drop (at + 4) words))
    ∙ take_at (flat_map (word_bytes 8) lanes) (flat_map (word_bytes 8) (drop (at + 4) words)) 32 long) in
    let value : digits_l 256 32 (number_l (2 ^ 64) lanes) ≡ chunk (8 * at) 32 whole =
    ap (λ n. digits_l 256 n (number_l (2 ^ 64) lanes)) many ∙ bytes_of_lanes lanes low ∙ sym here in
    done_block (8 * at) 32 m whole old now (digits_l 256 32 (number_l (2 ^ 64) lanes)) is (length-words 8 words ∙ sym same) next (omega (arith, same)) value

pub stored_all : (at : ℕ) (words old now tail : List ℕ) → now ≡ done_to (8 * at) (flat_map (word_bytes 8) words) old → length old ≡ 8 * length words → at ≤ length words
    → tail ≡ flat_map (word_bytes 8) (drop at words) → take (8 * at) now ++ (tail ++ drop (length now - 8 * at) (drop (8 * at) now)) ≡ flat_map (word_bytes 8) words
stored_all at words old now tail is same room end =
    let whole = flat_map (word_bytes 8) words in
    let long : 8 * at ≤ length whole = omega (arith, length-words 8 words) in
    let front : take (8 * at) now ≡ take (8 * at) whole = ap (take (8 * at)) is ∙ take_at (take (8 * at) whole) (drop (8 * at) old) (8 * at) (length-take-le (8 * at) whole long) in
    let none : drop (length now - 8 * at) (drop (8 * at) now) ≡ [] = drop_all (length now - 8 * at) (drop (8 * at) now) (omega (arith, length-drop (8 * at) now)) in
    rw (none, append-nil tail, front, end, ← drop-words 8 words at) (take-append-drop (8 * at) whole)
