-- Rows that are added one after the other.
use Rattle.std.proofs.Common.{◌≡◌, ℕ, zero, suc, ◌+◌, ◌-◌, ◌*◌, ◌<◌, ◌≤◌, List, ◌++◌, length, slice_index, slice_range, take, drop, map, refl, sym, ◌∙◌, ap, ap₂, subst, arith}
use Rattle.std.proofs.lemmas.List.{take-append-drop, length-take-le, get_or-append_right, get_or_append_left, length-map, get_or-map, ext_get_or}
use Rattle.std.proofs.Math.Nat.{mul-le-mul_right}
use Rattle.std.proofs.lemmas.Simd.{chunk-drop, get_or-zip2}
use Rattle.tce_base.specs.Word.{wrapping_add, wrapping_mul}
use Rattle.tce_kernel.specs.Scaled.{with_scaled, with_rows}
use Rattle.tce_kernel.proofs.RowBlocks.{chunk-row, row_is}
use Rattle.tce_kernel.proofs.Scaled.{length-with_scaled}
use Rattle.tce_words.specs.Added.{reach, rows_added}
use Rattle.tce_words.specs.Rows.{IsRowAdded, AreRowsAdded, row_of}
use Rattle.tce_words.specs.Run.{IsWithin, AreApart, IsRun, with_part}
use Rattle.tce_words.proofs.RunSteps.{run_of_part, get_or-slice_range, part_within, length-part, part_replaced}

-- the part that was split off
pub middle_is : (words front target back : List ℕ) (out n : ℕ) → words ≡ front ++ (target ++ back) → length front ≡ out → length target ≡ n → out + n ≤ length words → target ≡ slice_range words out (out + n)
middle_is words front target back out n whole before long room =
    ext_get_or 0 target (slice_range words out (out + n)) (long ∙ sym (length-part words out n room))
    (λ t lt. let below : t < n = omega (arith, long) in
    sym (get_or-slice_range words out n t 1 refl below room
    ∙ ap (λ xs. slice_index xs (out + t * 1)) whole
    ∙ get_or-append_right front (target ++ back) out (out + t * 1) 0 before (omega arith)
    ∙ ap (λ k. slice_index (target ++ back) k) (omega arith)
    ∙ get_or_append_left target back 0 t lt))

-- a part that is replaced again
replaced_again : (old words next : List ℕ) (out : ℕ) → length next ≡ length words → out ≤ length old → with_part old out next ≡ with_part (with_part old out words) out next
replaced_again old words next out long le =
    ap (λ k. take out old ++ (next ++ drop (out + k) old)) long
    ∙ part_replaced (with_part old out words) (take out old) words (drop (out + length words) old) next out refl (length-take-le out old le) long

-- so many rows of n words leave n words
length-made : (words scales : List ℕ) (factor_step : ℕ) (scaled : List ℕ) (row_step n count : ℕ) → length words ≡ n → ((t : ℕ) → t < count → length (slice_range scaled (t * row_step) (t * row_step + n)) ≡ n)
    → length (with_rows words scales factor_step scaled row_step count) ≡ n
length-made words scales factor_step scaled row_step n zero long rows = long
length-made words scales factor_step scaled row_step n (suc k) long rows =
    length-with_scaled (with_rows words scales factor_step scaled row_step k) (slice_range scaled (k * row_step) (k * row_step + length words)) (slice_index scales (k * factor_step)) n
    (length-made words scales factor_step scaled row_step n k long (λ t lt. rows t (omega arith)))
    (ap (λ m. length (slice_range scaled (k * row_step) (k * row_step + m))) long ∙ rows k (omega arith))

next_row_added : (out factor row n : ℕ) (old words : List ℕ) → 0 < n → length words ≡ n → IsWithin (length old) out 1 n → IsWithin (length old) row 1 n
    → AreApart out 1 factor 0 n → AreApart out 1 row 1 n
    → IsRowAdded out factor row n (with_part old out words) (with_part old out (with_scaled words (slice_index old factor) (row_of old row n)))
next_row_added out factor row n old words some long within row_within factor_apart row_apart =
    let now : List ℕ = with_part old out words in let by : ℕ = slice_index old factor in let along : List ℕ = row_of old row n in
    let next : List ℕ = with_scaled words by along in
    let room : out + n ≤ length old = part_within (length old) out 1 n refl some within in
    let row_room : row + n ≤ length old = part_within (length old) row 1 n refl some row_within in
    let row_long : length along ≡ n = length-part old row n row_room in
    let next_long : length next ≡ n = length-with_scaled words along by n long row_long in
    let placed : IsRun (slice_index words) out 1 n old now = run_of_part (slice_index words) out 1 n old words refl long room (λ t lt. refl) in
    let f : ℕ → ℕ = λ t. wrapping_add (slice_index now (out + t * 1)) (wrapping_mul (slice_index now (factor + t * 0)) (slice_index now (row + t * 1))) in
    let still : (t : ℕ) → factor + t * 0 ≡ factor = λ t. omega arith in
    let values : (t : ℕ) → t < n → slice_index next t ≡ f t = λ t lt.
    get_or-zip2 wrapping_add words (map (wrapping_mul by) along) t 0 0 0 (omega (arith, long)) (omega (arith, length-map along (wrapping_mul by), row_long))
    ∙ ap₂ wrapping_add (sym (placed.made t lt))
    (get_or-map (wrapping_mul by) along t 0 0 (omega (arith, row_long))
    ∙ ap₂ wrapping_mul
    (sym (placed.others (factor + t * 0) (λ s before same. factor_apart s t before lt (sym same)) ∙ ap (slice_index old) (still t)))
    (get_or-slice_range old row n t 1 refl lt row_room ∙ sym (placed.others (row + t * 1) (λ s before same. row_apart s t before lt (sym same))))) in
    subst (λ new. IsRun f out 1 n now new) (sym (replaced_again old words next out (next_long ∙ sym long) (omega arith)))
    (run_of_part f out 1 n now next refl next_long (omega (arith, room, placed.same_length)) values)

-- words that are put where they were
part_stays : (out n : ℕ) (old : List ℕ) → out + n ≤ length old → with_part old out (row_of old out n) ≡ old
part_stays out n old room =
    let long : length (row_of old out n) ≡ n = length-part old out n room in
    ap (λ k. take out old ++ (row_of old out n ++ drop (out + k) old)) long
    ∙ ap (λ part. take out old ++ (part ++ drop (out + n) old)) (row_is out n old)
    ∙ ap (λ rest. take out old ++ rest) (sym (chunk-drop out n old))
    ∙ take-append-drop out old

pub all_rows_added : (out factor factor_step row row_step n count : ℕ) (scales scaled old : List ℕ) → 0 < n → IsWithin (length old) out 1 n → ((t : ℕ) → t < count → IsWithin (length old) (row + t * row_step) 1 n)
    → ((t : ℕ) → t < count → AreApart out 1 (factor + t * factor_step) 0 n) → ((t : ℕ) → t < count → AreApart out 1 (row + t * row_step) 1 n)
    → ((t : ℕ) → t < count → slice_index scales (t * factor_step) ≡ slice_index old (factor + t * factor_step))
    → ((t : ℕ) → t < count → slice_range scaled (t * row_step) (t * row_step + n) ≡ row_of old (row + t * row_step) n)
    → AreRowsAdded out factor factor_step row row_step n count old (with_part old out (with_rows (row_of old out n) scales factor_step scaled row_step count))
all_rows_added out factor factor_step row row_step n zero scales scaled old some within rows factors_apart rows_apart factor_at row_at =
    part_stays out n old (part_within (length old) out 1 n refl some within)
all_rows_added out factor factor_step row row_step n (suc k) scales scaled old some within rows factors_apart rows_apart factor_at row_at =
    let last : k < suc k = omega arith in
    let words : List ℕ = row_of old out n in
    let long : length words ≡ n = length-part old out n (part_within (length old) out 1 n refl some within) in
    let made : List ℕ = with_rows words scales factor_step scaled row_step k in
    let row_length : (t : ℕ) → t < suc k → length (row_of old (row + t * row_step) n) ≡ n = λ t lt. length-part old (row + t * row_step) n (part_within (length old) (row + t * row_step) 1 n refl some (rows t lt)) in
    let made_long : length made ≡ n = length-made words scales factor_step scaled row_step n k long (λ t lt. ap length (row_at t (omega arith)) ∙ row_length t (omega arith)) in
    let same : with_scaled made (slice_index old (factor + k * factor_step)) (row_of old (row + k * row_step) n) ≡ with_rows words scales factor_step scaled row_step (suc k) =
    sym (ap₂ (with_scaled made) (factor_at k last) (ap (λ m. slice_range scaled (k * row_step) (k * row_step + m)) long ∙ row_at k last)) in (
      with_part old out made,
      all_rows_added out factor factor_step row row_step n k scales scaled old some within (λ t lt. rows t (omega arith)) (λ t lt. factors_apart t (omega arith)) (λ t lt. rows_apart t (omega arith)) (λ t lt. factor_at t (omega arith)) (λ t lt. row_at t (omega arith)),
      subst (λ next. IsRowAdded out (factor + k * factor_step) (row + k * row_step) n (with_part old out made) (with_part old out next)) same
          (next_row_added out (factor + k * factor_step) (row + k * row_step) n old made some made_long within (rows k last) (factors_apart k last) (rows_apart k last)),
    )

-- no row has a word
pub no_words_added : (out factor factor_step row row_step count : ℕ) (old : List ℕ) → AreRowsAdded out factor factor_step row row_step 0 count old old
no_words_added out factor factor_step row row_step zero old = refl
no_words_added out factor factor_step row row_step (suc k) old =
    (old, no_words_added out factor factor_step row row_step k old, record { same_length = refl; made = λ t lt. absurd (omega arith); others = λ i none. refl })

-- one row more
pub one_row_more : (out factor factor_step row row_step n k : ℕ) (old now next : List ℕ) → AreRowsAdded out factor factor_step row row_step n k old now → IsRowAdded out (factor + k * factor_step) (row + k * row_step) n now next
    → AreRowsAdded out factor factor_step row row_step n (k + 1) old next
one_row_more out factor factor_step row row_step n k old now next before more =
    let is : suc k ≡ k + 1 = omega arith in
    subst (λ m. AreRowsAdded out factor factor_step row row_step n m old next) is (now, before, more)

-- the rows lie in one part of the words, and so do the factors
pub parts_added : (out factor factor_step row row_step n count : ℕ) (old new : List ℕ) → 0 < n → 0 < count → IsWithin (length old) out 1 n
    → IsWithin (length old) factor factor_step count → ((t : ℕ) → t < count → IsWithin (length old) (row + t * row_step) 1 n)
    → ((t : ℕ) → t < count → AreApart out 1 (factor + t * factor_step) 0 n) → ((t : ℕ) → t < count → AreApart out 1 (row + t * row_step) 1 n)
    → new ≡ with_part old out (rows_added old out factor factor_step row row_step n count)
    → AreRowsAdded out factor factor_step row row_step n count old new
parts_added out factor factor_step row row_step n count old new some more within factors rows factors_apart rows_apart is =
    let last : count - 1 < count = omega arith in
    let factor_room : factor + reach factor_step count 1 ≤ length old = omega (arith, factors (count - 1) last) in
    let row_room : row + (count - 1) * row_step + n ≤ length old = part_within (length old) (row + (count - 1) * row_step) 1 n refl some (rows (count - 1) last) in
    let below : (t step : ℕ) → t < count → t * step ≤ (count - 1) * step = λ t step lt. mul-le-mul_right step (omega arith) in
    subst (λ next. AreRowsAdded out factor factor_step row row_step n count old next) (sym is)
    (all_rows_added out factor factor_step row row_step n count (row_of old factor (reach factor_step count 1)) (row_of old row (reach row_step count n)) old some within rows factors_apart rows_apart
    (λ t lt.
    let inside : t * factor_step < reach factor_step count 1 = omega (arith, below t factor_step lt) in
    let here : factor + t * factor_step * 1 ≡ factor + t * factor_step = omega arith in
    get_or-slice_range old factor (reach factor_step count 1) (t * factor_step) 1 refl inside factor_room ∙ ap (slice_index old) here)
    (λ t lt.
    row_is (t * row_step) n (row_of old row (reach row_step count n))
    ∙ chunk-row (t * row_step) n (reach row_step count n) row (row + t * row_step) old (omega (arith, below t row_step lt)) refl
    ∙ sym (row_is (row + t * row_step) n old)))

pub same_rows : (words also scales scales_too scaled scaled_too : List ℕ) (factor_step row_step count : ℕ) → words ≡ also → scales ≡ scales_too → scaled ≡ scaled_too
    → with_rows words scales factor_step scaled row_step count ≡ with_rows also scales_too factor_step scaled_too row_step count
same_rows words also scales scales_too scaled scaled_too factor_step row_step count p q r = rw (p, q, r) refl
