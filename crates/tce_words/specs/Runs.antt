-- What runs over a list of words make of it.
use Rattle.std.specs.Prelude.{ℕ, ◌+◌, ◌*◌, ◌<◌, ◌≤◌, ◌⊎◌, List, slice_index, slice_set}
use Rattle.std.specs.Simd.Lanes.{zip2}
use Rattle.tce_base.specs.Word.{wrapping_add, wrapping_sub, wrapping_mul, wrapping_sum}
use Rattle.tce_words.specs.Run.{IsWithin, AreApart, IsRun, word_along, words_along}

-- each word of the run out is the product of those of the runs a and b
abbrev pub IsTimes : ℕ → ℕ → ℕ → ℕ → ℕ → ℕ → ℕ → List ℕ → List ℕ → Type 0
IsTimes out out_step a a_step b b_step n old new =
    IsRun (λ t. wrapping_mul (word_along old a a_step t) (word_along old b b_step t)) out out_step n old new

-- each word of the run out grew by the product of those of the runs a and b
abbrev pub IsTimesAdded : ℕ → ℕ → ℕ → ℕ → ℕ → ℕ → ℕ → List ℕ → List ℕ → Type 0
IsTimesAdded out out_step a a_step b b_step n old new =
    IsRun (λ t. wrapping_add (word_along old out out_step t) (wrapping_mul (word_along old a a_step t) (word_along old b b_step t))) out out_step n old new

-- each word of the run out is the sum of those of the runs a and b
abbrev pub IsPlus : ℕ → ℕ → ℕ → ℕ → ℕ → ℕ → ℕ → List ℕ → List ℕ → Type 0
IsPlus out out_step a a_step b b_step n old new =
    IsRun (λ t. wrapping_add (word_along old a a_step t) (word_along old b b_step t)) out out_step n old new

-- each word of the run out is that of the run a less that of b
abbrev pub IsMinus : ℕ → ℕ → ℕ → ℕ → ℕ → ℕ → ℕ → List ℕ → List ℕ → Type 0
IsMinus out out_step a a_step b b_step n old new =
    IsRun (λ t. wrapping_sub (word_along old a a_step t) (word_along old b b_step t)) out out_step n old new

-- each word of the run out grew by that of the run a
abbrev pub IsAdded : ℕ → ℕ → ℕ → ℕ → ℕ → List ℕ → List ℕ → Type 0
IsAdded out out_step a a_step n old new =
    IsRun (λ t. wrapping_add (word_along old out out_step t) (word_along old a a_step t)) out out_step n old new

-- each of the n words from out on is what f gives of the one as far behind a
abbrev pub IsMapped : (ℕ → ℕ) → ℕ → ℕ → ℕ → List ℕ → List ℕ → Type 0
IsMapped f out a n old new = IsRun (λ t. f (word_along old a 1 t)) out 1 n old new

-- the sum of the products along the runs a and b
abbrev pub dot_of : List ℕ → ℕ → ℕ → ℕ → ℕ → ℕ → ℕ
dot_of words a a_step b b_step n = wrapping_sum (zip2 wrapping_mul (words_along words a a_step n) (words_along words b b_step n))

-- the words where the one at a place grew by another
abbrev pub grown_at : List ℕ → ℕ → ℕ → List ℕ
grown_at words at more = slice_set words at (wrapping_add (slice_index words at) more)

-- each of so many rows of n words, whose first ones are a step apart, lies among len words
abbrev pub AreRowsWithin : ℕ → ℕ → ℕ → ℕ → ℕ → Type 0
AreRowsWithin len row row_step n count = (t : ℕ) → t < count → IsWithin len (row + t * row_step) 1 n

-- and none of them has a place of the n words from `out` on; `step` is 1 for a row, and 0 where each is one word
abbrev pub AreRowsApart : ℕ → ℕ → ℕ → ℕ → ℕ → ℕ → Type 0
AreRowsApart out row row_step step n count = (t : ℕ) → t < count → AreApart out 1 (row + t * row_step) step n

-- the len words from `at` on end before the n words from `out` on or begin behind them
abbrev pub IsBeside : ℕ → ℕ → ℕ → ℕ → Type 0
IsBeside out n at len = (at + len ≤ out) ⊎ (out + n ≤ at)
