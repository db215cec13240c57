-- Trees that name their indexes rightly.
use Rattle.std.specs.Prelude.{ℕ, Bool, true, false, not, ◌&&◌, ◌||◌, ◌==◌, nat_lt, IsTrue, List, [], ◌∷◌, length}
use Rattle.std.specs.List.{list_all}
use Rattle.tce_space.specs.Limits.{max_indexes}
use Rattle.tce_space.specs.IndexSet.{has}
use Rattle.tce_space.specs.Space.{IndexSpace}
use Rattle.tce_tree.specs.ContractionTree.{ContractionTree, leaf, constant, binary, sum, dims}

-- whether a number stands in a list
abbrev pub among : List ℕ → ℕ → Bool
among [] i = false
among (x ∷ xs) i = x == i || among xs i

-- whether no number stands twice in a list
abbrev pub is_distinct : List ℕ → Bool
is_distinct [] = true
is_distinct (x ∷ xs) = not (among xs x) && is_distinct xs

-- whether the leaves and sums name indexes below `n` alone
abbrev pub indexes_below : ℕ → ContractionTree → Bool
indexes_below n (leaf tensor indexes) = list_all (λ i. nat_lt i n) indexes
indexes_below n (constant number) = true
indexes_below n (binary op left right) = indexes_below n left && indexes_below n right
indexes_below n (sum indexes operand) = list_all (λ i. nat_lt i n) indexes && indexes_below n operand

-- whether no sum lists an index twice
abbrev pub sums_distinct : ContractionTree → Bool
sums_distinct (leaf tensor indexes) = true
sums_distinct (constant number) = true
sums_distinct (binary op left right) = sums_distinct left && sums_distinct right
sums_distinct (sum indexes operand) = is_distinct indexes && sums_distinct operand

-- whether each sum is over indexes of its operand
abbrev pub sums_present : ContractionTree → Bool
sums_present (leaf tensor indexes) = true
sums_present (constant number) = true
sums_present (binary op left right) = sums_present left && sums_present right
sums_present (sum indexes operand) = list_all (has (dims operand)) indexes && sums_present operand

-- all numbers are numbers of indexes, and each sum lists indexes of its operand, each once
pub record IsWellFormed (tree : ContractionTree) : Type 0 where
  pub indexed : IsTrue (indexes_below max_indexes tree)
  pub distinct : IsTrue (sums_distinct tree)
  pub present : IsTrue (sums_present tree)

-- all indexes of the tree are declared
abbrev pub IsDeclaredTree : IndexSpace → ContractionTree → Type 0
IsDeclaredTree space tree = IsTrue (indexes_below (length space.indexes) tree)

-- each number of the list is that of a declared index
abbrev pub AreIndexes : IndexSpace → List ℕ → Type 0
AreIndexes space indexes = IsTrue (list_all (λ i. nat_lt i (length space.indexes)) indexes)
