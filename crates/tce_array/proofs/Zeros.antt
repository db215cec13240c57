-- Files of zeros, and the form of a file.
use Rattle.std.proofs.Common.{◌≡◌, ◌∙◌, ℕ, zero, suc, ◌+◌, ◌-◌, ◌*◌, ◌<◌, ◌≤◌, Bool, true, false, if◌then◌else◌, nat_lt, List, [], ◌∷◌, ◌++◌, length, take, drop, map, replicate, sym, refl, ap, arith, Option, Some, None, unwrap_or, codes, length-append, slice_index}
use Rattle.std.specs.List.{flat_map}
use Rattle.std.specs.Str.{bytes_eq}
use Rattle.std.specs.Option.{IsSomeAnd}
use Rattle.std.proofs.lemmas.List.{replicate-append-replicate, drop-replicate, take-append-drop, take-append-le, get_or-drop, get_or_append_left, length-take-le}
use Rattle.tce_base.specs.Word.{word_of_bytes}
use Rattle.tce_space.specs.Box.{places, is_inside}
use Rattle.tce_space.specs.Tiling.{Tiling, tile_counts, tile_words, padded_words, joined}
use Rattle.tce_space.proofs.Boxes.{length-places}
use Rattle.tce_outside.specs.Files.{overwritten}
use Rattle.tce_array.specs.declared.form.Form.{Form}
use Rattle.tce_array.specs.declared.form.Form.TheVariants.{One, Narrow, Wide}
use Rattle.tce_base.specs.Word.{word_bytes}
use Rattle.tce_array.specs.Forms.{width, head, head_len, form_len, form_by, form_of, tile_of_words, words, form_bytes}
use Rattle.tce_array.proofs.Contents.{length-head}

zero_bytes : (form : Form) → word_bytes (width form) 0 ≡ replicate (width form) 0
unfolding word_bytes
zero_bytes One = refl
zero_bytes Narrow = refl
zero_bytes Wide = refl

zero_pieces : {X : Type 0} (f : X → List ℕ) (m : ℕ) → ((x : X) → f x ≡ replicate m 0) → (xs : List X) → flat_map f xs ≡ replicate (m * length xs) 0
zero_pieces f m is [] = let none : m * 0 ≡ 0 = omega arith in ap (λ n. replicate n 0) (sym none)
zero_pieces f m is (x ∷ xs) =
    let more : m + m * length xs ≡ m * suc (length xs) = omega arith in
    ap (λ l. l ++ flat_map f xs) (is x) ∙ ap (λ l. replicate m 0 ++ l) (zero_pieces f m is xs) ∙ replicate-append-replicate m (m * length xs) 0 ∙ ap (λ n. replicate n 0) more

zero_words : (form : Form) (n : ℕ) → flat_map (word_bytes (width form)) (replicate n 0) ≡ replicate (width form * n) 0
zero_words form zero = let none : width form * 0 ≡ 0 = omega arith in ap (λ n. replicate n 0) (sym none)
zero_words form (suc n) =
    let more : width form + width form * n ≡ width form * suc n = omega arith in
    ap (λ l. l ++ flat_map (word_bytes (width form)) (replicate n 0)) (zero_bytes form) ∙ ap (λ l. replicate (width form) 0 ++ l) (zero_words form n) ∙ replicate-append-replicate (width form) (width form * n) 0 ∙ ap (λ n. replicate n 0) more

zero_map : {X : Type 0} (f : X → ℕ) → ((x : X) → f x ≡ 0) → (xs : List X) → map f xs ≡ replicate (length xs) 0
zero_map f is [] = refl
zero_map f is (x ∷ xs) = ap (λ y. y ∷ map f xs) (is x) ∙ ap (λ l. 0 ∷ l) (zero_map f is xs)

either : (b : Bool) (n : ℕ) → (if b then n else n) ≡ n
either true n = refl
either false n = refl

zero_tile : (s : Tiling) (tile : List ℕ) → tile_of_words s (λ _. 0) tile ≡ replicate (tile_words s) 0
zero_tile s tile =
    zero_map (λ inner. if is_inside s.extents (joined s.edges tile inner) then 0 else 0) (λ inner. either (is_inside s.extents (joined s.edges tile inner)) 0) (places s.edges)
    ∙ ap (λ n. replicate n 0) (length-places s.edges)

pub zero_array : (s : Tiling) → words s (λ _. 0) ≡ replicate (padded_words s) 0
zero_array s = zero_pieces (tile_of_words s (λ _. 0)) (tile_words s) (zero_tile s) (places (tile_counts s)) ∙ ap (λ n. replicate (tile_words s * n) 0) (length-places (tile_counts s))

-- a front written over a list
front_over : (front old body : List ℕ) (n : ℕ) → length front ≡ n → drop n old ≡ body → overwritten old 0 front ≡ front ++ body
front_over front old body n len rest =
    let behind : 0 + length front ≡ n = omega arith in
    ap (λ k. front ++ drop k old) behind ∙ ap (λ l. front ++ l) rest

rest_of_zeros : (form : Form) (s : Tiling) → drop (head_len form s) (replicate (form_len form s) 0) ≡ flat_map (word_bytes (width form)) (words s (λ _. 0))
rest_of_zeros form s =
    let left : form_len form s - head_len form s ≡ width form * padded_words s = omega arith in
    drop-replicate (head_len form s) (form_len form s) 0 ∙ ap (λ n. replicate n 0) left
    ∙ sym (ap (flat_map (word_bytes (width form))) (zero_array s) ∙ zero_words form (padded_words s))

-- a head written over zeros gives the file of zeros
pub zeros_with_head : (form : Form) (s : Tiling) → overwritten (replicate (form_len form s) 0) 0 (head form s) ≡ form_bytes form s (λ _. 0)
zeros_with_head form s =
    front_over (head form s) (replicate (form_len form s) 0) (flat_map (word_bytes (width form)) (words s (λ _. 0))) (head_len form s) (length-head form s) (rest_of_zeros form s)

-- only the first bytes tell the form
number_of_start : (start rest : List ℕ) → length start ≡ 24 → word_of_bytes 8 (drop 16 (start ++ rest)) ≡ word_of_bytes 8 (drop 16 start)
unfolding word_of_bytes
number_of_start start rest len =
    let same : (i : ℕ) → i < 8 → slice_index (drop 16 (start ++ rest)) i ≡ slice_index (drop 16 start) i =
    λ i lt. get_or-drop 16 (start ++ rest) i 0 ∙ get_or_append_left start rest 0 (16 + i) (omega arith) ∙ sym (get_or-drop 16 start i 0) in
    omega (arith, same 0 (omega arith), same 1 (omega arith), same 2 (omega arith), same 3 (omega arith), same 4 (omega arith), same 5 (omega arith), same 6 (omega arith), same 7 (omega arith))

pub form_of_start : (start rest : List ℕ) → length start ≡ 24 → form_of (start ++ rest) ≡ form_by (bytes_eq (take 8 start) (codes "TCARRAY2")) (word_of_bytes 8 (drop 16 start))
form_of_start start rest len =
    let both = length-append start rest in
    let long : nat_lt (length (start ++ rest)) 24 ≡ false = grind (arith, both, len) in
    ap (λ b. if b then One else form_by (bytes_eq (take 8 (start ++ rest)) (codes "TCARRAY2")) (word_of_bytes 8 (drop 16 (start ++ rest)))) long
    ∙ ap (λ l. form_by (bytes_eq l (codes "TCARRAY2")) (word_of_bytes 8 (drop 16 (start ++ rest)))) (take-append-le 8 start rest (omega arith))
    ∙ ap (λ n. form_by (bytes_eq (take 8 start) (codes "TCARRAY2")) n) (number_of_start start rest len)

pub found_form : (o : Option (List ℕ)) (len : ℕ) (start : List ℕ) → IsSomeAnd o (λ bytes. length bytes ≡ len) → 24 ≤ len → start ≡ take 24 (drop 0 (unwrap_or o []))
    → IsSomeAnd o (λ bytes. form_of bytes ≡ form_by (bytes_eq (take 8 start) (codes "TCARRAY2")) (word_of_bytes 8 (drop 16 start)))
found_form None len start h l e = absurd h
found_form (Some bytes) len start h l e =
    let whole : start ++ drop 24 bytes ≡ bytes = ap (λ s. s ++ drop 24 bytes) e ∙ take-append-drop 24 bytes in
    let long : length start ≡ 24 = ap length e ∙ length-take-le 24 bytes (omega arith) in
    ap form_of (sym whole) ∙ form_of_start start (drop 24 bytes) long
