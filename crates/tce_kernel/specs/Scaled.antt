-- Rows of words that are added with a factor.
use Rattle.std.specs.Prelude.{ℕ, zero, suc, ◌+◌, ◌*◌, ◌<◌, ◌≤◌, List, map, length, slice_index, slice_range}
use Rattle.std.specs.Simd.Lanes.{zip2}
use Rattle.tce_base.specs.Word.{wrapping_add, wrapping_mul}

-- the words, each with the product of the factor and the word of the row at its place added
abbrev pub with_scaled : List ℕ → ℕ → List ℕ → List ℕ
with_scaled words factor row = zip2 wrapping_add words (map (wrapping_mul factor) row)

-- so many rows of as many words, added one after the other: each factor and each row's first word is a step after the one before
abbrev pub with_rows : List ℕ → List ℕ → ℕ → List ℕ → ℕ → ℕ → List ℕ
with_rows words factors factor_step rows row_step zero = words
with_rows words factors factor_step rows row_step (suc k) =
    with_scaled (with_rows words factors factor_step rows row_step k) (slice_index factors (k * factor_step)) (slice_range rows (k * row_step) (k * row_step + length words))

-- each of the factors is one of len words
abbrev pub AreFactorsWithin : ℕ → ℕ → ℕ → Type 0
AreFactorsWithin len step count = (k : ℕ) → k < count → k * step < len

-- each of the rows of n words is among len words
abbrev pub AreRowsWithin : ℕ → ℕ → ℕ → ℕ → Type 0
AreRowsWithin len step count n = (k : ℕ) → k < count → k * step + n ≤ len
