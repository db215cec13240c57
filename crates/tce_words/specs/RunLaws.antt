-- When the conditions of a run hold, for runs along one dimension of a row-major block.
use Rattle.std.specs.Prelude.{◌≡◌, ℕ, ◌+◌, ◌*◌, ◌<◌, ◌≤◌, ◌⊎◌}
use Rattle.tce_words.specs.Run.{IsWithin, AreApart, IsDistinct, LiesIn}

-- In a row-major block let `outer` be the product of the extents before a dimension, and `inner` that of the extents behind it.
-- Its words from coordinates that stand `o`-th before the dimension and `i`-th behind it are `inner` apart, and all in the block.
abbrev pub RowsLieInBlocks : Type 0
RowsLieInBlocks =
    (from outer extent inner o i n first : ℕ) → o < outer → i < inner → n ≤ extent → first ≡ from + (o * (extent * inner) + i)
    → LiesIn from (outer * (extent * inner)) first inner n

-- a run that stays at one word of a block lies in it
abbrev pub WordsLieInBlocks : Type 0
WordsLieInBlocks = (from len first n : ℕ) → from ≤ first → first < from + len → LiesIn from len first 0 n

-- a run in a block is in range where the block is
abbrev pub BlocksAreWithin : Type 0
BlocksAreWithin = (from len total first step n : ℕ) → LiesIn from len first step n → from + len ≤ total → IsWithin total first step n

-- runs in two blocks of which one ends before the other begins have no place in common
abbrev pub BlocksAreApart : Type 0
BlocksAreApart =
    (from len first step other_from other_len other other_step n : ℕ) → LiesIn from len first step n → LiesIn other_from other_len other other_step n
    → (from + len ≤ other_from) ⊎ (other_from + other_len ≤ from) → AreApart first step other other_step n

-- a run with a step has no place twice
abbrev pub StepsAreDistinct : Type 0
StepsAreDistinct = (first step n : ℕ) → 0 < step → IsDistinct first step n
