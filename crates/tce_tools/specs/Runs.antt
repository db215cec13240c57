-- Runs: elements that follow each other both in row-major order and tile by tile.
use Rattle.std.specs.Prelude.{◌≡◌, ℕ, ◌+◌, ◌<◌, ◌≤◌, List, [], ◌∷◌, length, slice_index}
use Rattle.tce_space.specs.Box.{place, IsInside}
use Rattle.tce_space.specs.Tiling.{Tiling, IsTiling, word_number, elements, padded_words}
use Rattle.tce_tools.specs.declared.run.Run.{Run}

-- the elements from one on, in row-major order, are the words from one on
pub record IsRun (s : Tiling) (run : Run) : Type 0 where
  pub tiling : IsTiling s
  pub few : elements s ≤ padded_words s
  pub some : 0 < run.len
  pub short : run.len ≤ 4096
  pub inside : run.start + run.len ≤ elements s
  pub room : run.word + run.len ≤ padded_words s
  pub numbers : (k : ℕ) → k < run.len → (xs : List ℕ) → IsInside s.extents xs → place s.extents xs ≡ run.start + k → word_number s xs ≡ run.word + k

-- the values are those of the elements from one on, in row-major order
abbrev pub AreElements : Tiling → (List ℕ → ℕ) → ℕ → List ℕ → Type 0
AreElements s element from values =
    (k : ℕ) → k < length values → (xs : List ℕ) → IsInside s.extents xs → place s.extents xs ≡ from + k → slice_index values k ≡ element xs

-- word numbers are row-major places
abbrev pub IsRowMajor : Tiling → Type 0
IsRowMajor s = (xs : List ℕ) → IsInside s.extents xs → word_number s xs ≡ place s.extents xs

-- the coordinates with the last one moved on
abbrev pub moved : List ℕ → ℕ → List ℕ
moved [] k = []
moved (x ∷ []) k = (x + k) ∷ []
moved (x ∷ y ∷ ys) k = x ∷ moved (y ∷ ys) k

-- each word is what a function gives for its place
abbrev pub EachWordIs : List ℕ → (ℕ → ℕ) → Type 0
EachWordIs words word_at = (k : ℕ) → k < length words → slice_index words k ≡ word_at k
