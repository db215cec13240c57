-- The steps of a loop that goes along a run, and runs whose steps are 1.
use Rattle.std.proofs.Common.{◌≡◌, ◌≢◌, ℕ, ◌+◌, ◌*◌, ◌-◌, ◌<◌, ◌≤◌, ◌⊎◌, inl, inr, List, ◌++◌, length, slice_index, slice_range, set, take, drop, map, replicate, refl, sym, ◌∙◌, ap, subst, arith, below_more}
use Rattle.std.proofs.lemmas.List.{get_or-set_other, get_or-set_same, length-set, length-take-le, length-append, length-drop, get_or-append_right, get_or_append_left, get_or-take, get_or-drop, length-map, get_or-map, ext_get_or, take_at, drop_at, drop-drop, length-replicate, get_or-replicate, places}
use Rattle.std.proofs.lemmas.List.FromFn.{length-map-range_with_len, get_or-map-range_with_len}
use Rattle.std.proofs.lemmas.Simd.{length-zip2, get_or-zip2}
use Rattle.std.specs.List.{refill}
use Rattle.std.specs.Simd.Lanes.{zip2}
use Rattle.std.proofs.lemmas.Bool.{cases_lt}
use Rattle.tce_words.specs.Rows.{row_of}
use Rattle.tce_words.specs.Run.{IsWithin, AreApart, IsDistinct, IsRun, with_part, words_along}
use Rattle.tce_words.specs.Runs.{IsMapped}

-- a place that is read in turn t is still as it was
pub unread : (f : ℕ → ℕ) (first step other other_step t n : ℕ) (old now : List ℕ) → IsRun f first step t old now → AreApart first step other other_step n → t < n → slice_index now (other + t * other_step) ≡ slice_index old (other + t * other_step)
unread f first step other other_step t n old now run apart lt =
    run.others (other + t * other_step) (λ s before same. apart s t (omega arith) lt (sym same))

-- the run's own place t is still as it was
pub own_unread : (f : ℕ → ℕ) (first step t n : ℕ) (old now : List ℕ) → IsRun f first step t old now → IsDistinct first step n → t < n → slice_index now (first + t * step) ≡ slice_index old (first + t * step)
own_unread f first step t n old now run distinct lt = run.others (first + t * step) (λ s before same. distinct s t before lt (sym same))

pub run_more : (f : ℕ → ℕ) (first step t n v : ℕ) (old now : List ℕ) → IsRun f first step t old now → IsDistinct first step n → t < n → first + t * step < length old → v ≡ f t → IsRun f first step (t + 1) old (set now (first + t * step) v)
run_more f first step t n v old now run distinct lt within value =
    let inside : first + t * step < length now = omega (arith, run.same_length) in
    record {
      same_length = length-set now (first + t * step) v ∙ run.same_length;
      made = below_more _ _
          (λ s before. let ne : first + s * step ≢ first + t * step = distinct s t before lt in rw get_or-set_other (run.made s before))
          (get_or-set_same now (first + t * step) v 0 inside ∙ value);
      others = λ k no_place. let ne : k ≢ first + t * step = no_place t (omega arith) in
          rw get_or-set_other (run.others k (λ s before. no_place s (omega arith)));
    }

-- two runs with the step 1 that are apart lie one before the other
pub one_before_other : (first step other other_step n : ℕ) → step ≡ 1 → other_step ≡ 1 → 0 < n → AreApart first step other other_step n → (other + n ≤ first) ⊎ (first + n ≤ other)
one_before_other first step other other_step n one also_one some apart =
    elim (cases_lt other first) [
      | inl before ↦ elim (cases_lt first (other + n)) [
        | inl within ↦ absurd (apart 0 (first - other) some (omega arith) (rw (one, also_one) (omega arith)))
        | inr beyond ↦ inl beyond
      ]
      | inr behind ↦ elim (cases_lt other (first + n)) [
        | inl within ↦ absurd (apart (other - first) 0 (omega arith) some (rw (one, also_one) (omega arith)))
        | inr beyond ↦ inr beyond
      ]
    ]

-- a run whose step is 1 replaces a part
pub run_of_part : (f : ℕ → ℕ) (first step n : ℕ) (old zs : List ℕ) → step ≡ 1 → length zs ≡ n → first + n ≤ length old → ((t : ℕ) → t < n → slice_index zs t ≡ f t) → IsRun f first step n old (with_part old first zs)
run_of_part f first step n old zs one long room values =
    let front : length (take first old) ≡ first = length-take-le first old (omega arith) in
    let rest : List ℕ = drop (first + length zs) old in
    record {
      same_length = length-append (take first old) (zs ++ rest) ∙ omega (arith, front, length-append zs rest, length-drop (first + length zs) old);
      made = λ t lt.
          get_or-append_right (take first old) (zs ++ rest) first (first + t * step) 0 front (omega arith)
          ∙ ap (λ k. slice_index (zs ++ rest) k) (rw one (omega arith))
          ∙ get_or_append_left zs rest 0 t (omega arith)
          ∙ values t lt;
      others = λ k no_place. elim (cases_lt k first) [
        | inl before ↦ get_or_append_left (take first old) (zs ++ rest) 0 k (omega arith) ∙ get_or-take first old k 0 before
        | inr behind ↦ elim (cases_lt k (first + n)) [
          | inl within ↦ absurd (no_place (k - first) (omega arith) (rw one (omega arith)))
          | inr beyond ↦
              get_or-append_right (take first old) (zs ++ rest) first k 0 front behind
              ∙ get_or-append_right zs rest n (k - first) 0 long (omega arith)
              ∙ get_or-drop (first + length zs) old (k - first - n) 0
              ∙ ap (λ j. slice_index old j) (omega arith)
        ]
      ];
    }

-- a word of a part
pub get_or-slice_range : (xs : List ℕ) (from n t step : ℕ) → step ≡ 1 → t < n → from + n ≤ length xs → slice_index (slice_range xs from (from + n)) t ≡ slice_index xs (from + t * step)
get_or-slice_range xs from n t step one lt room = rw one (grind (arith, places))

-- a run whose step is 1 is a part
pub part_within : (len first step n : ℕ) → step ≡ 1 → 0 < n → IsWithin len first step n → first + n ≤ len
part_within len first step n one some within =
    let last : first + (n - 1) * step < len = within (n - 1) (omega arith) in
    let is : (n - 1) * step ≡ n - 1 = rw one (omega arith) in
    omega arith

pub length-part : (xs : List ℕ) (from n : ℕ) → from + n ≤ length xs → length (slice_range xs from (from + n)) ≡ n
length-part xs from n room = grind (arith, places)

-- the runs of the kernels that take two parts, and a word and a part
pub run_joined : (f : ℕ → ℕ → ℕ) (out out_step a a_step b b_step n : ℕ) (old new : List ℕ) → new ≡ with_part old out (zip2 f (slice_range old a (a + n)) (slice_range old b (b + n)))
    → out_step ≡ 1 → a_step ≡ 1 → b_step ≡ 1 → 0 < n → IsWithin (length old) out out_step n → IsWithin (length old) a a_step n → IsWithin (length old) b b_step n
    → IsRun (λ t. f (slice_index old (a + t * a_step)) (slice_index old (b + t * b_step))) out out_step n old new
run_joined f out out_step a a_step b b_step n old new is one a_one b_one some within a_within b_within =
    let xs = slice_range old a (a + n) in let ys = slice_range old b (b + n) in
    let long : length xs ≡ n = length-part old a n (part_within (length old) a a_step n a_one some a_within) in
    let also_long : length ys ≡ n = length-part old b n (part_within (length old) b b_step n b_one some b_within) in
    rw is (run_of_part (λ t. f (slice_index old (a + t * a_step)) (slice_index old (b + t * b_step))) out out_step n old (zip2 f xs ys) one (length-zip2 f xs ys (long ∙ sym also_long) ∙ long)
    (part_within (length old) out out_step n one some within)
    (λ t lt. get_or-zip2 f xs ys t 0 0 0 (omega arith) (omega arith)
    ∙ ap (λ x. f x (slice_index ys t)) (get_or-slice_range old a n t a_step a_one lt (part_within (length old) a a_step n a_one some a_within))
    ∙ ap (f (slice_index old (a + t * a_step))) (get_or-slice_range old b n t b_step b_one lt (part_within (length old) b b_step n b_one some b_within))))

pub run_mapped : (f : ℕ → ℕ) (g : ℕ → ℕ) (out out_step b b_step n : ℕ) (old new : List ℕ) → new ≡ with_part old out (map f (slice_range old b (b + n)))
    → out_step ≡ 1 → b_step ≡ 1 → 0 < n → IsWithin (length old) out out_step n → IsWithin (length old) b b_step n
    → ((t : ℕ) → f (slice_index old (b + t * b_step)) ≡ g t)
    → IsRun g out out_step n old new
run_mapped f g out out_step b b_step n old new is one b_one some within b_within same =
    let ys = slice_range old b (b + n) in
    let long : length ys ≡ n = length-part old b n (part_within (length old) b b_step n b_one some b_within) in
    rw is (run_of_part g out out_step n old (map f ys) one (length-map ys f ∙ long)
    (part_within (length old) out out_step n one some within)
    (λ t lt. get_or-map f ys t 0 0 (omega arith)
    ∙ ap f (get_or-slice_range old b n t b_step b_one lt (part_within (length old) b b_step n b_one some b_within))
    ∙ same t))

-- the same for a block of words
pub part_mapped : (f : ℕ → ℕ) (out a n : ℕ) (old new : List ℕ) → new ≡ with_part old out (map f (row_of old a n)) → out + n ≤ length old → a + n ≤ length old
    → IsMapped f out a n old (refill (length old) old new)
part_mapped f out a n old new is room a_room =
    let ys = slice_range old a (a + n) in
    let long : length (map f ys) ≡ n = length-map ys f ∙ length-part old a n a_room in
    let made = run_of_part (λ t. f (slice_index old (a + t * 1))) out 1 n old (map f ys) refl long room
    (λ t lt. get_or-map f ys t 0 0 (omega (arith, length-part old a n a_room)) ∙ ap f (get_or-slice_range old a n t 1 refl lt a_room)) in
    subst (λ xs. IsMapped f out a n old xs) (sym (ap (refill (length old) old) is ∙ take_at (with_part old out (map f ys)) (drop (length (with_part old out (map f ys))) old) (length old) made.same_length)) made

-- the words of two parts joined by f, and of one part mapped by f
pub joined_values : (f : ℕ → ℕ → ℕ) (a a_step b b_step n : ℕ) (old : List ℕ) → a_step ≡ 1 → b_step ≡ 1 → 0 < n → IsWithin (length old) a a_step n → IsWithin (length old) b b_step n
    → let zs = zip2 f (slice_range old a (a + n)) (slice_range old b (b + n)) in
    (length zs ≡ n) × ((t : ℕ) → t < n → slice_index zs t ≡ f (slice_index old (a + t * a_step)) (slice_index old (b + t * b_step)))
joined_values f a a_step b b_step n old a_one b_one some a_within b_within =
    let xs = slice_range old a (a + n) in let ys = slice_range old b (b + n) in
    let a_room = part_within (length old) a a_step n a_one some a_within in let b_room = part_within (length old) b b_step n b_one some b_within in
    let long : length xs ≡ n = length-part old a n a_room in let also_long : length ys ≡ n = length-part old b n b_room in (
      length-zip2 f xs ys (long ∙ sym also_long) ∙ long,
      λ t lt. get_or-zip2 f xs ys t 0 0 0 (omega arith) (omega arith)
          ∙ ap (λ x. f x (slice_index ys t)) (get_or-slice_range old a n t a_step a_one lt a_room)
          ∙ ap (f (slice_index old (a + t * a_step))) (get_or-slice_range old b n t b_step b_one lt b_room),
    )

pub mapped_values : (f : ℕ → ℕ) (g : ℕ → ℕ) (b b_step n : ℕ) (old : List ℕ) → b_step ≡ 1 → 0 < n → IsWithin (length old) b b_step n → ((t : ℕ) → f (slice_index old (b + t * b_step)) ≡ g t)
    → let zs = map f (slice_range old b (b + n)) in (length zs ≡ n) × ((t : ℕ) → t < n → slice_index zs t ≡ g t)
mapped_values f g b b_step n old b_one some b_within same =
    let ys = slice_range old b (b + n) in let room = part_within (length old) b b_step n b_one some b_within in
    let long : length ys ≡ n = length-part old b n room in
    (length-map ys f ∙ long, λ t lt. get_or-map f ys t 0 0 (omega arith) ∙ ap f (get_or-slice_range old b n t b_step b_one lt room) ∙ same t)

-- a run that adds to its own words
pub run_added : (g : ℕ → ℕ → ℕ) (f : ℕ → ℕ) (out out_step n : ℕ) (old new zs : List ℕ) → new ≡ with_part old out (zip2 g (slice_range old out (out + n)) zs)
    → out_step ≡ 1 → 0 < n → IsWithin (length old) out out_step n → (length zs ≡ n) × ((t : ℕ) → t < n → slice_index zs t ≡ f t)
    → IsRun (λ t. g (slice_index old (out + t * out_step)) (f t)) out out_step n old new
run_added g f out out_step n old new zs is one some within values =
    let xs = slice_range old out (out + n) in let room = part_within (length old) out out_step n one some within in
    let long : length xs ≡ n = length-part old out n room in let also_long : length zs ≡ n = values.0 in
    rw is (run_of_part (λ t. g (slice_index old (out + t * out_step)) (f t)) out out_step n old (zip2 g xs zs) one (length-zip2 g xs zs (long ∙ sym also_long) ∙ long) room
    (λ t lt. get_or-zip2 g xs zs t 0 0 0 (omega arith) (omega arith)
    ∙ ap (λ x. g x (slice_index zs t)) (get_or-slice_range old out n t out_step one lt room)
    ∙ ap (g (slice_index old (out + t * out_step))) (values.1 t lt)))

-- the words along a run whose step is 1, or 0
pub length-words_along : (xs : List ℕ) (first step n : ℕ) → length (words_along xs first step n) ≡ n
length-words_along xs first step n = length-map-range_with_len (λ t. slice_index xs (first + t * step)) 0 n

pub get_or-words_along : (xs : List ℕ) (first step n t : ℕ) → t < n → slice_index (words_along xs first step n) t ≡ slice_index xs (first + t * step)
get_or-words_along xs first step n t lt = get_or-map-range_with_len (λ k. slice_index xs (first + k * step)) 0 n t t 0 lt (omega arith)

pub words_along_part : (xs : List ℕ) (first step n : ℕ) → step ≡ 1 → 0 < n → IsWithin (length xs) first step n → slice_range xs first (first + n) ≡ words_along xs first step n
words_along_part xs first step n one some within =
    let room = part_within (length xs) first step n one some within in
    ext_get_or 0 (slice_range xs first (first + n)) (words_along xs first step n) (length-part xs first n room ∙ sym (length-words_along xs first step n))
    (λ t lt. let below : t < n = omega (arith, length-part xs first n room) in
    get_or-slice_range xs first n t step one below room ∙ sym (get_or-words_along xs first step n t below))

pub words_along_still : (xs : List ℕ) (first step n : ℕ) → step ≡ 0 → words_along xs first step n ≡ replicate n (slice_index xs first)
words_along_still xs first step n none =
    ext_get_or 0 (words_along xs first step n) (replicate n (slice_index xs first)) (length-words_along xs first step n ∙ sym (length-replicate n (slice_index xs first)))
    (λ t lt. let below : t < n = omega (arith, length-words_along xs first step n) in
    get_or-words_along xs first step n t below ∙ ap (slice_index xs) (rw none (omega arith)) ∙ sym (get_or-replicate n t (slice_index xs first) 0 below))

-- an operand whose step is 0 is one word
still : (at t step : ℕ) → step ≡ 0 → at ≡ at + t * step
still at t step none = rw none (omega arith)

pub steady_left : (f : ℕ → ℕ → ℕ) (word : ℕ → ℕ) (a t step y : ℕ) → step ≡ 0 → f (word a) y ≡ f (word (a + t * step)) y
steady_left f word a t step y none = ap (λ k. f (word k) y) (still a t step none)

pub steady_right : (f : ℕ → ℕ → ℕ) (word : ℕ → ℕ) (b t step x : ℕ) → step ≡ 0 → f x (word b) ≡ f x (word (b + t * step))
steady_right f word b t step x none = ap (λ k. f x (word k)) (still b t step none)

-- the same where the order of f's words does not matter
pub steady_swapped : (f : ℕ → ℕ → ℕ) (word : ℕ → ℕ) (b t step x : ℕ) → step ≡ 0 → f (word b) x ≡ f x (word b) → f (word b) x ≡ f x (word (b + t * step))
steady_swapped f word b t step x none swapped = swapped ∙ steady_right f word b t step x none

-- the part that lies between front and back, replaced by as many words
pub part_replaced : (words front target back new : List ℕ) (out : ℕ) → words ≡ front ++ (target ++ back) → length front ≡ out → length new ≡ length target → front ++ (new ++ back) ≡ with_part words out new
part_replaced words front target back new out is before long =
    let kept : take out words ≡ front = ap (take out) is ∙ take_at front (target ++ back) out before in
    let past : drop out words ≡ target ++ back = ap (drop out) is ∙ drop_at front (target ++ back) out before in
    let rest : drop (out + length new) words ≡ back = sym (drop-drop (length new) out words) ∙ ap (drop (length new)) past ∙ drop_at target back (length new) (sym long) in
    rw (kept, rest) refl
