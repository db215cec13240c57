-- Runs over a list of words: n places, from the first on, each a step after the one before.
use Rattle.std.specs.List.{range_with_len}
use Rattle.std.specs.Prelude.{◌≡◌, ◌≢◌, ℕ, ◌+◌, ◌*◌, ◌<◌, ◌≤◌, List, ◌++◌, map, length, slice_index, take, drop}

-- each place of the run is one of len words
abbrev pub IsWithin : ℕ → ℕ → ℕ → ℕ → Type 0
IsWithin len first step n = (t : ℕ) → t < n → first + t * step < len

-- each place of the run is one of the len places from `from` on
abbrev pub LiesIn : ℕ → ℕ → ℕ → ℕ → ℕ → Type 0
LiesIn from len first step n = (t : ℕ) → t < n → (from ≤ first + t * step) × (first + t * step < from + len)

-- no place of one run is a place of the other
abbrev pub AreApart : ℕ → ℕ → ℕ → ℕ → ℕ → Type 0
AreApart first step other other_step n = (s t : ℕ) → s < n → t < n → first + s * step ≢ other + t * other_step

-- the run has no place twice
abbrev pub IsDistinct : ℕ → ℕ → ℕ → Type 0
IsDistinct first step n = (s t : ℕ) → s < t → t < n → first + s * step ≢ first + t * step

-- the word at place t of a run
abbrev pub word_along : List ℕ → ℕ → ℕ → ℕ → ℕ
word_along xs first step t = slice_index xs (first + t * step)

-- the words at the places of a run, from the first on
abbrev pub words_along : List ℕ → ℕ → ℕ → ℕ → List ℕ
words_along xs first step n = map (word_along xs first step) (range_with_len 0 n)

-- place t of the run has the word that f gives, and all other words stay
pub record IsRun (f : ℕ → ℕ) (first step n : ℕ) (old new : List ℕ) : Type 0 where
  pub same_length : length new ≡ length old
  pub made : (t : ℕ) → t < n → slice_index new (first + t * step) ≡ f t
  pub others : (k : ℕ) → ((t : ℕ) → t < n → k ≢ first + t * step) → slice_index new k ≡ slice_index old k

-- the words with those of ys in place of as many from `at` on
abbrev pub with_part : List ℕ → ℕ → List ℕ → List ℕ
with_part xs at ys = take at xs ++ (ys ++ drop (at + length ys) xs)
