-- The subsets of a set of indexes.
use Rattle.std.specs.Prelude.{◌↔◌, ℕ, List, ◌++◌, map, Contains}
use Rattle.std.specs.List.Sorted.{IsStrictlyIncreasing}
use Rattle.tce_space.specs.IndexSet.{IsWithin, with_index}

-- the list has each subset once, in the order of their numbers
pub record AreSubsets (set : ℕ) (subsets : List ℕ) : Type 0 where
  pub each : (subset : ℕ) → Contains subsets subset ↔ IsWithin subset set
  pub ascend : IsStrictlyIncreasing subsets

-- the sets, and then each with one more index
abbrev pub widened : List ℕ → ℕ → List ℕ
widened sets index = sets ++ map (λ set. with_index set index) sets
