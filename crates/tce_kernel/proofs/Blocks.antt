-- Loops that have done their work on the first words of a slice: by blocks, and then by words.
use Rattle.std.proofs.Common.{◌≡◌, ℕ, zero, suc, ◌+◌, ◌<◌, ◌≤◌, List, [], ◌∷◌, ◌++◌, length, get_or, set, take, drop, map, replicate, refl, sym, ◌∙◌, ap, arith}
use Rattle.std.specs.Simd.Lanes.{zip2, chunk, put_chunk}
use Rattle.std.proofs.lemmas.List.{append-nil, append_assoc, length-take-le, length-drop, length-append, take_all, drop_all, take_at, drop_at, drop-drop, drop_more, take_more, set_at, take-map, drop-map, get_or_at, length-map, get_or-map}
use Rattle.std.proofs.lemmas.Simd.{put_chunk_is, length-chunk, length-zip2, get_or-zip2, zip2_splat, zip2_splat_left}
use Rattle.std.proofs.Math.Seq.{take-add}

-- the words of `whole` below `at`, and those of `old` from there on
abbrev pub done_to : ℕ → List ℕ → List ℕ → List ℕ
done_to at whole old = take at whole ++ drop at old

pub done_all : (at : ℕ) (whole old : List ℕ) → length whole ≡ length old → length old ≤ at → done_to at whole old ≡ whole
done_all at whole old same past =
    let all : take at whole ≡ whole = take_all at whole (omega arith) in
    let none : drop at old ≡ [] = drop_all at old past in
    rw (all, none) (append-nil whole)

-- what is not done yet is as it was
pub drop-done_to : (at : ℕ) (whole old : List ℕ) → at ≤ length whole → drop at (done_to at whole old) ≡ drop at old
drop-done_to at whole old le = drop_at (take at whole) (drop at old) at (length-take-le at whole le)

pub chunk-done_to : (at n : ℕ) (whole old now : List ℕ) → now ≡ done_to at whole old → at ≤ length whole → chunk at n now ≡ chunk at n old
chunk-done_to at n whole old now is le = rw is (ap (take n) (drop-done_to at whole old le))

pub get_or-done_to : (at : ℕ) (whole old now : List ℕ) → now ≡ done_to at whole old → at ≤ length whole → at < length old → get_or now at 0 ≡ get_or old at 0
get_or-done_to at whole old now is le lt =
    rw (is, drop_more old at 0 lt) (get_or_at (take at whole) (get_or old at 0) (drop (at + 1) old) 0 at (length-take-le at whole le))

-- the steps of the two loops
pub done_word : (at v : ℕ) (whole old now : List ℕ) → now ≡ done_to at whole old → length whole ≡ length old → at < length old → v ≡ get_or whole at 0 → set now at v ≡ done_to (at + 1) whole old
done_word at v whole old now is same lt value =
    let inside : at < length whole = omega arith in
    let front : length (take at whole) ≡ at = length-take-le at whole (omega arith) in
    rw (is, drop_more old at 0 lt, set_at (take at whole) (get_or old at 0) (drop (at + 1) old) v at front, take_more whole at 0 inside, value)
    (sym (append_assoc (take at whole) (get_or whole at 0 ∷ []) (drop (at + 1) old)))

pub done_block : (at n m : ℕ) (whole old now ys : List ℕ) → now ≡ done_to at whole old → length whole ≡ length old → m ≡ at + n → m ≤ length old → ys ≡ chunk at n whole → put_chunk at now ys ≡ done_to m whole old
done_block at n m whole old now ys is same next le value =
    let front : length (take at whole) ≡ at = length-take-le at whole (omega arith) in
    let long : length ys ≡ n = ap length value ∙ length-chunk at n whole (omega arith) in
    let whole_now : length now ≡ length old = ap length is ∙ length-append (take at whole) (drop at old) ∙ omega (arith, front, length-drop at old) in
    let before : take at now ≡ take at whole = ap (take at) is ∙ take_at (take at whole) (drop at old) at front in
    let after : drop n (drop at now) ≡ drop (at + n) old = ap (drop n) (ap (drop at) is ∙ drop_at (take at whole) (drop at old) at front) ∙ drop-drop n at old in
    put_chunk_is at now ys (omega arith)
    ∙ rw (before, long, after, next, take-add at n whole, value) (sym (append_assoc (take at whole) (chunk at n whole) (drop (at + n) old)))

-- a block of a list that is made word by word
take-zip2 : {X Y Z : Type 0} (f : X → Y → Z) (n : ℕ) (xs : List X) (ys : List Y) → take n (zip2 f xs ys) ≡ zip2 f (take n xs) (take n ys)
take-zip2 f zero xs ys = refl
take-zip2 f (suc n) [] ys = refl
take-zip2 f (suc n) (x ∷ xs) [] = refl
take-zip2 f (suc n) (x ∷ xs) (y ∷ ys) = ap (λ l. f x y ∷ l) (take-zip2 f n xs ys)

zip2-nil : {X Y Z : Type 0} (f : X → Y → Z) (xs : List X) → zip2 f xs [] ≡ []
zip2-nil f [] = refl
zip2-nil f (x ∷ xs) = refl

drop-zip2 : {X Y Z : Type 0} (f : X → Y → Z) (n : ℕ) (xs : List X) (ys : List Y) → drop n (zip2 f xs ys) ≡ zip2 f (drop n xs) (drop n ys)
drop-zip2 f zero xs ys = refl
drop-zip2 f (suc n) [] ys = refl
drop-zip2 f (suc n) (x ∷ xs) [] = sym (zip2-nil f (drop n xs))
drop-zip2 f (suc n) (x ∷ xs) (y ∷ ys) = drop-zip2 f n xs ys

pub chunk-zip2 : {X Y Z : Type 0} (f : X → Y → Z) (at n : ℕ) (xs : List X) (ys : List Y) → chunk at n (zip2 f xs ys) ≡ zip2 f (chunk at n xs) (chunk at n ys)
chunk-zip2 f at n xs ys = ap (take n) (drop-zip2 f at xs ys) ∙ take-zip2 f n (drop at xs) (drop at ys)

pub chunk-map : {X Y : Type 0} (f : X → Y) (at n : ℕ) (xs : List X) → chunk at n (map f xs) ≡ map f (chunk at n xs)
chunk-map f at n xs = ap (take n) (drop-map f at xs) ∙ take-map f n (drop at xs)

pub splat_chunk : (f : ℕ → ℕ → ℕ) (n s at : ℕ) (ys : List ℕ) → at + n ≤ length ys → zip2 f (replicate n s) (chunk at n ys) ≡ chunk at n (map (f s) ys)
splat_chunk f n s at ys le = zip2_splat_left f s n (chunk at n ys) (length-chunk at n ys le) ∙ sym (chunk-map (f s) at n ys)

pub chunk_splat : (f : ℕ → ℕ → ℕ) (n s at : ℕ) (xs : List ℕ) → at + n ≤ length xs → zip2 f (chunk at n xs) (replicate n s) ≡ chunk at n (map (λ x. f x s) xs)
chunk_splat f n s at xs le = zip2_splat f (chunk at n xs) n s (length-chunk at n xs le) ∙ sym (chunk-map (λ x. f x s) at n xs)

-- the steps of the two loops, where f takes the words of two lists at each place
pub block_of_two : (f : ℕ → ℕ → ℕ) (at n m : ℕ) (xs ys old now : List ℕ) → now ≡ done_to at (zip2 f xs ys) old → length xs ≡ length old → length ys ≡ length old → m ≡ at + n → m ≤ length old → put_chunk at now (zip2 f (chunk at n xs) (chunk at n ys)) ≡ done_to m (zip2 f xs ys) old
block_of_two f at n m xs ys old now is same also next le =
    done_block at n m (zip2 f xs ys) old now (zip2 f (chunk at n xs) (chunk at n ys)) is (length-zip2 f xs ys (same ∙ sym also) ∙ same) next le (sym (chunk-zip2 f at n xs ys))

pub word_of_two : (f : ℕ → ℕ → ℕ) (at : ℕ) (xs ys old now : List ℕ) → now ≡ done_to at (zip2 f xs ys) old → length xs ≡ length old → length ys ≡ length old → at < length old → set now at (f (get_or xs at 0) (get_or ys at 0)) ≡ done_to (at + 1) (zip2 f xs ys) old
word_of_two f at xs ys old now is same also lt =
    done_word at (f (get_or xs at 0) (get_or ys at 0)) (zip2 f xs ys) old now is (length-zip2 f xs ys (same ∙ sym also) ∙ same) lt (sym (get_or-zip2 f xs ys at 0 0 0 (omega arith) (omega arith)))

pub all_of_two : (f : ℕ → ℕ → ℕ) (at : ℕ) (xs ys old now : List ℕ) → now ≡ done_to at (zip2 f xs ys) old → length xs ≡ length old → length ys ≡ length old → length old ≤ at → now ≡ zip2 f xs ys
all_of_two f at xs ys old now is same also past = is ∙ done_all at (zip2 f xs ys) old (length-zip2 f xs ys (same ∙ sym also) ∙ same) past

-- the same steps, where g takes the word of one list at each place
pub block_of_one : (g : ℕ → ℕ) (at n m : ℕ) (xs old now ys : List ℕ) → now ≡ done_to at (map g xs) old → length xs ≡ length old → m ≡ at + n → m ≤ length old → ys ≡ chunk at n (map g xs) → put_chunk at now ys ≡ done_to m (map g xs) old
block_of_one g at n m xs old now ys is same next le value = done_block at n m (map g xs) old now ys is (length-map xs g ∙ same) next le value

pub word_of_one : (g : ℕ → ℕ) (at : ℕ) (xs old now : List ℕ) → now ≡ done_to at (map g xs) old → length xs ≡ length old → at < length old → set now at (g (get_or xs at 0)) ≡ done_to (at + 1) (map g xs) old
word_of_one g at xs old now is same lt =
    done_word at (g (get_or xs at 0)) (map g xs) old now is (length-map xs g ∙ same) lt (sym (get_or-map g xs at 0 0 (omega arith)))

pub all_of_one : (g : ℕ → ℕ) (at : ℕ) (xs old now : List ℕ) → now ≡ done_to at (map g xs) old → length xs ≡ length old → length old ≤ at → now ≡ map g xs
all_of_one g at xs old now is same past = is ∙ done_all at (map g xs) old (length-map xs g ∙ same) past

-- the same steps, where f takes each word of `old` with the word of `xs` at its place
pub block_joined : (f : ℕ → ℕ → ℕ) (at n m : ℕ) (xs ys old now : List ℕ) → now ≡ done_to at (zip2 f old xs) old → length xs ≡ length old → m ≡ at + n → m ≤ length old → ys ≡ chunk at n xs → put_chunk at now (zip2 f (chunk at n now) ys) ≡ done_to m (zip2 f old xs) old
block_joined f at n m xs ys old now is same next le value =
    let long : length (zip2 f old xs) ≡ length old = length-zip2 f old xs (sym same) in
    done_block at n m (zip2 f old xs) old now (zip2 f (chunk at n now) ys) is long next le
    (rw (value, chunk-done_to at n (zip2 f old xs) old now is (omega arith)) (sym (chunk-zip2 f at n old xs)))

pub word_joined : (f : ℕ → ℕ → ℕ) (at x : ℕ) (xs old now : List ℕ) → now ≡ done_to at (zip2 f old xs) old → length xs ≡ length old → at < length old → x ≡ get_or xs at 0 → set now at (f (get_or now at 0) x) ≡ done_to (at + 1) (zip2 f old xs) old
word_joined f at x xs old now is same lt value =
    let long : length (zip2 f old xs) ≡ length old = length-zip2 f old xs (sym same) in
    let there : get_or now at 0 ≡ get_or old at 0 = get_or-done_to at (zip2 f old xs) old now is (omega arith) lt in
    done_word at (f (get_or now at 0) x) (zip2 f old xs) old now is long lt
    (rw (there, value) (sym (get_or-zip2 f old xs at 0 0 0 lt (omega arith))))

pub all_joined : (f : ℕ → ℕ → ℕ) (at : ℕ) (xs old now : List ℕ) → now ≡ done_to at (zip2 f old xs) old → length xs ≡ length old → length old ≤ at → now ≡ zip2 f old xs
all_joined f at xs old now is same past = is ∙ done_all at (zip2 f old xs) old (length-zip2 f old xs (sym same)) past
