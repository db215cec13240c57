-- Rows of products that are added to a run of words.
use Rattle.std.specs.Prelude.{◌≡◌, ℕ, zero, suc, ◌+◌, ◌*◌, List, slice_range}
use Rattle.tce_base.specs.Word.{wrapping_add, wrapping_mul}
use Rattle.tce_words.specs.Run.{IsRun, word_along}

-- the n words from `row` on
abbrev pub row_of : List ℕ → ℕ → ℕ → List ℕ
row_of words row n = slice_range words row (row + n)

-- the n words from `out` on grow by the products of the word at `factor` and those from `row` on
abbrev pub IsRowAdded : ℕ → ℕ → ℕ → ℕ → List ℕ → List ℕ → Type 0
IsRowAdded out factor row n old new =
    IsRun (λ t. wrapping_add (word_along old out 1 t) (wrapping_mul (word_along old factor 0 t) (word_along old row 1 t))) out 1 n old new

-- so many rows are added one after the other, each of whose factors and first words is a step after the one before
abbrev pub AreRowsAdded : ℕ → ℕ → ℕ → ℕ → ℕ → ℕ → ℕ → List ℕ → List ℕ → Type 0
AreRowsAdded out factor factor_step row row_step n zero old new = new ≡ old
AreRowsAdded out factor factor_step row row_step n (suc k) old new =
    (before : List ℕ) × AreRowsAdded out factor factor_step row row_step n k old before × IsRowAdded out (factor + k * factor_step) (row + k * row_step) n before new
