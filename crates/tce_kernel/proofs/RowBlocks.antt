-- Rows that are added one after the other, seen in blocks.
use Rattle.std.proofs.Common.{◌≡◌, ℕ, zero, suc, ◌+◌, ◌-◌, ◌*◌, ◌<◌, ◌≤◌, List, [], ◌∷◌, length, ◌++◌, set, take, drop, map, replicate, refl, slice_index, slice_range, sym, ◌∙◌, ap, ap₂, arith}
use Rattle.std.specs.Simd.Lanes.{zip2, chunk}
use Rattle.std.proofs.lemmas.List.{drop-drop, drop-take, drop_more, take-take, take_rest, length-take-le, length-drop, length-append}
use Rattle.std.proofs.lemmas.Simd.{length-chunk, put_chunk_is}
use borrow.Rule.Slice.PartMut.{put_mid}
use Rattle.tce_base.specs.Word.{wrapping_add, wrapping_mul}
use Rattle.tce_kernel.specs.Scaled.{AreRowsWithin, with_scaled, with_rows}
use Rattle.tce_kernel.proofs.Blocks.{done_to, done_all, done_block, done_word, chunk-done_to, get_or-done_to, chunk-zip2, chunk-map}
use Rattle.tce_kernel.proofs.Scaled.{length-with_scaled, chunk-with_scaled}

-- one row more
pub rows_more : (words factors : List ℕ) (factor_step : ℕ) (rows : List ℕ) (row_step k : ℕ)
    → with_rows words factors factor_step rows row_step (k + 1) ≡ with_scaled (with_rows words factors factor_step rows row_step k) (slice_index factors (k * factor_step)) (slice_range rows (k * row_step) (k * row_step + length words))
rows_more words factors factor_step rows row_step k =
    let next : k + 1 ≡ suc k = omega arith in rw next refl

pub row_is : (from n : ℕ) (rows : List ℕ) → slice_range rows from (from + n) ≡ chunk from n rows
row_is from n rows =
    let many : from + n - from ≡ n = omega arith in ap (λ m. take m (drop from rows)) many

pub length-row : (from n : ℕ) (rows : List ℕ) → from + n ≤ length rows → length (slice_range rows from (from + n)) ≡ n
length-row from n rows room = ap length (row_is from n rows) ∙ length-chunk from n rows room

-- part of a row
pub chunk-row : (at n m from start : ℕ) (rows : List ℕ) → at + n ≤ m → start ≡ from + at → chunk at n (slice_range rows from (from + m)) ≡ chunk start n rows
chunk-row at n m from start rows le is =
    let rest : m ≡ at + (m - at) = omega arith in
    ap (chunk at n) (row_is from m rows) ∙ ap (λ i. take n (drop at (take i (drop from rows)))) rest
    ∙ ap (take n) (drop-take at (m - at) (drop from rows)) ∙ take-take n (m - at) (drop at (drop from rows)) (omega arith)
    ∙ ap (take n) (drop-drop at from rows ∙ ap (λ i. drop i rows) (sym is))

pub length-with_rows : (words factors : List ℕ) (factor_step : ℕ) (rows : List ℕ) (row_step count : ℕ) → AreRowsWithin (length rows) row_step count (length words)
    → length (with_rows words factors factor_step rows row_step count) ≡ length words
length-with_rows words factors factor_step rows row_step zero inside = refl
length-with_rows words factors factor_step rows row_step (suc k) inside =
    length-with_scaled (with_rows words factors factor_step rows row_step k) (slice_range rows (k * row_step) (k * row_step + length words)) (slice_index factors (k * factor_step)) (length words)
    (length-with_rows words factors factor_step rows row_step k (λ j lt. inside j (omega arith)))
    (length-row (k * row_step) (length words) rows (inside k (omega arith)))

-- a block of lanes takes one row more
pub lanes_more : (at n k from : ℕ) (words factors : List ℕ) (factor_step : ℕ) (rows : List ℕ) (row_step : ℕ) (lanes : List ℕ) → at + n ≤ length words → k * row_step + length words ≤ length rows → from ≡ k * row_step + at
    → lanes ≡ chunk at n (with_rows words factors factor_step rows row_step k)
    → zip2 wrapping_add lanes (zip2 wrapping_mul (replicate n (slice_index factors (k * factor_step))) (chunk from n rows)) ≡ chunk at n (with_rows words factors factor_step rows row_step (k + 1))
lanes_more at n k from words factors factor_step rows row_step lanes le room is so_far =
    let factor = slice_index factors (k * factor_step) in
    let row = slice_range rows (k * row_step) (k * row_step + length words) in
    let long : length row ≡ length words = length-row (k * row_step) (length words) rows room in
    ap (λ part. zip2 wrapping_add lanes (zip2 wrapping_mul (replicate n factor) part)) (sym (chunk-row at n (length words) (k * row_step) from rows le is))
    ∙ chunk-with_scaled at n factor (with_rows words factors factor_step rows row_step k) row lanes (omega arith) so_far
    ∙ ap (chunk at n) (sym (rows_more words factors factor_step rows row_step k))

-- a block of the words takes all rows by itself
pub chunk-with_rows : (at n : ℕ) (words factors : List ℕ) (factor_step : ℕ) (rows : List ℕ) (row_step count : ℕ) → at + n ≤ length words
    → chunk at n (with_rows words factors factor_step rows row_step count) ≡ with_rows (chunk at n words) factors factor_step (drop at rows) row_step count
chunk-with_rows at n words factors factor_step rows row_step zero le = refl
chunk-with_rows at n words factors factor_step rows row_step (suc k) le =
    let by = wrapping_mul (slice_index factors (k * factor_step)) in
    let row = slice_range rows (k * row_step) (k * row_step + length words) in
    let long : length (chunk at n words) ≡ n = length-chunk at n words le in
    let there : k * row_step + at ≡ at + k * row_step = omega arith in
    chunk-zip2 wrapping_add at n (with_rows words factors factor_step rows row_step k) (map by row)
    ∙ ap₂ (zip2 wrapping_add) (chunk-with_rows at n words factors factor_step rows row_step k le)
    (chunk-map by at n row
    ∙ ap (map by) (chunk-row at n (length words) (k * row_step) (k * row_step + at) rows le refl
    ∙ sym (row_is (k * row_step) (length (chunk at n words)) (drop at rows)
    ∙ ap₂ (λ m part. take m part) long (drop-drop (k * row_step) at rows ∙ ap (λ i. drop i rows) (sym there)))))

-- one word takes one row more
pub word_more : (k total word : ℕ) (factors : List ℕ) (factor_step : ℕ) (rows : List ℕ) (row_step : ℕ) → k * row_step < length rows
    → total ∷ [] ≡ with_rows (word ∷ []) factors factor_step rows row_step k
    → wrapping_add total (wrapping_mul (slice_index factors (k * factor_step)) (slice_index rows (k * row_step))) ∷ [] ≡ with_rows (word ∷ []) factors factor_step rows row_step (k + 1)
word_more k total word factors factor_step rows row_step lt so_far =
    let here : slice_range rows (k * row_step) (k * row_step + 1) ≡ slice_index rows (k * row_step) ∷ [] =
    row_is (k * row_step) 1 rows ∙ ap (take 1) (drop_more rows (k * row_step) 0 lt) in
    sym (rows_more (word ∷ []) factors factor_step rows row_step k
    ∙ ap₂ (λ words row. with_scaled words (slice_index factors (k * factor_step)) row) (sym so_far) here)

-- the steps of the loops over blocks and over single words
module _ (old factors : List ℕ) (factor_step : ℕ) (rows : List ℕ) (row_step count : ℕ) (inside : AreRowsWithin (length rows) row_step count (length old)) where
  abbrev whole : List ℕ
  whole = with_rows old factors factor_step rows row_step count

  long : length whole ≡ length old
  long = length-with_rows old factors factor_step rows row_step count inside

  pub block_done : (at n m k : ℕ) (now ys : List ℕ) → now ≡ done_to at whole old → m ≡ at + n → m ≤ length old → k ≡ n
      → ys ≡ with_rows (slice_range now at (at + n)) factors factor_step (slice_range rows at (length rows)) row_step count → put_mid at k now ys ≡ done_to m whole old
  block_done at n m k now ys is next le many made =
      let value : ys ≡ chunk at n whole =
      made ∙ ap₂ (λ words rest. with_rows words factors factor_step rest row_step count) (row_is at n now ∙ chunk-done_to at n whole old now is (omega (arith, long))) (take_rest rows at)
      ∙ sym (chunk-with_rows at n old factors factor_step rows row_step count (omega arith)) in
      let ys_long : length ys ≡ n = ap length value ∙ length-chunk at n whole (omega (arith, long)) in
      let now_long : length now ≡ length old = ap length is ∙ length-append (take at whole) (drop at old) ∙ omega (arith, length-take-le at whole (omega (arith, long)), length-drop at old) in
      ap (λ i. take at now ++ (ys ++ drop i (drop at now))) (many ∙ sym ys_long)
      ∙ sym (put_chunk_is at now ys (omega (arith, ys_long, now_long)))
      ∙ done_block at n m whole old now ys is long next le value

  pub word_done : (at word : ℕ) (now : List ℕ) → now ≡ done_to at whole old → at < length old
      → word ∷ [] ≡ with_rows (slice_index now at ∷ []) factors factor_step (slice_range rows at (length rows)) row_step count → set now at word ≡ done_to (at + 1) whole old
  word_done at word now is lt made =
      let before : slice_index now at ∷ [] ≡ chunk at 1 old =
      ap (λ w. w ∷ []) (get_or-done_to at whole old now is (omega (arith, long)) lt) ∙ sym (ap (take 1) (drop_more old at 0 lt)) in
      let after : chunk at 1 whole ≡ slice_index whole at ∷ [] = ap (take 1) (drop_more whole at 0 (omega (arith, long))) in
      let value : word ∷ [] ≡ slice_index whole at ∷ [] =
      made ∙ ap₂ (λ words rest. with_rows words factors factor_step rest row_step count) before (take_rest rows at)
      ∙ sym (chunk-with_rows at 1 old factors factor_step rows row_step count (omega arith)) ∙ after in
      done_word at word whole old now is long lt (ap (λ words. slice_index words 0) value)

  pub all_done : (at : ℕ) (now : List ℕ) → now ≡ done_to at whole old → length old ≤ at → now ≡ whole
  all_done at now is past = is ∙ done_all at whole old long past
