-- The last assignment of a box of loops, among all or among those with given numbers at some indexes.
use Rattle.std.specs.Prelude.{◌≡◌, ℕ, ◌+◌, ◌-◌, ◌<◌, Bool, true, not, ◌&&◌, ◌||◌, nat_le, nat_lt, if◌then◌else◌, IsTrue, List, map}
use Rattle.std.specs.List.{list_all, fold}
use Rattle.tce_space.specs.Tiling.{ArePositive}
use Rattle.tce_tree.specs.WellFormed.{among, is_distinct}
use Rattle.tce_tree.specs.Value.{Assignment, assignment}
use Rattle.tce_block.specs.Parts.{Part, blocks}

-- whether a part has assignments with the numbers of `b` at the fixed indexes
abbrev pub meets : (ℕ → Bool) → Assignment → List ℕ → Part → Bool
meets fixed b indexes part =
    list_all (λ i. not (fixed i) || (nat_le (assignment indexes part.from i) (b i) && nat_lt (b i) (assignment indexes part.from i + assignment indexes part.len i))) indexes

-- the last of these assignments, in any order of the loops
abbrev pub last_of_part : (ℕ → Bool) → Assignment → List ℕ → Assignment → Part → Assignment
last_of_part fixed b indexes a part =
    λ i. if among indexes i then (if fixed i then b i else assignment indexes part.from i + assignment indexes part.len i - 1) else a i

-- the last of those of the whole box
abbrev pub last_of_box : (ℕ → ℕ) → (ℕ → Bool) → Assignment → List ℕ → Assignment → Assignment
last_of_box extent fixed b indexes a = λ i. if among indexes i then (if fixed i then b i else extent i - 1) else a i

-- a word that each block sets at its last such assignment is in the end the one at the last of the box
abbrev pub BlocksLast : Type 0
BlocksLast =
    (extent edge : ℕ → ℕ) (indexes : List ℕ) (fixed : ℕ → Bool) (b : Assignment) (f : Assignment → ℕ) (a : Assignment) (old : ℕ)
    → IsTrue (is_distinct indexes) → ArePositive (map extent indexes) → ArePositive (map edge indexes)
    → ((i : ℕ) → IsTrue (among indexes i) → fixed i ≡ true → b i < extent i)
    → fold (λ word part. if meets fixed b indexes part then f (last_of_part fixed b indexes a part) else word) old (blocks (map extent indexes) (map edge indexes))
    ≡ f (last_of_box extent fixed b indexes a)
