-- The words that rows of products leave.
use Rattle.std.specs.Prelude.{ℕ, ◌+◌, ◌*◌, ◌-◌, List}
use Rattle.tce_kernel.specs.Scaled.{with_rows}
use Rattle.tce_words.specs.Rows.{row_of}

-- so many words from the first of the places to the last one and the n words from there on
abbrev pub reach : ℕ → ℕ → ℕ → ℕ
reach step count n = (count - 1) * step + n

-- the n words from `out` on, where the rows are added with their factors
abbrev pub rows_added : List ℕ → ℕ → ℕ → ℕ → ℕ → ℕ → ℕ → ℕ → List ℕ
rows_added words out factor factor_step row row_step n count =
    with_rows (row_of words out n) (row_of words factor (reach factor_step count 1)) factor_step (row_of words row (reach row_step count n)) row_step count
