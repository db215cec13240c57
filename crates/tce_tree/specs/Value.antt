-- The value of a tree at an assignment of numbers to its indexes. Words are numbers modulo 2 ^ 64.
use Rattle.std.specs.Prelude.{ℕ, zero, suc, List, [], ◌∷◌, map, ◌<◌, IsTrue, if◌then◌else◌, ◌==◌}
use Rattle.tce_base.specs.Word.{word, wrapping_add, wrapping_sub, wrapping_mul}
use Rattle.tce_space.specs.IndexSet.{has}
use Rattle.tce_tree.specs.ContractionTree.{ContractionTree, leaf, constant, binary, sum, Arithmetic, multiply, add, subtract}

-- the numbers of the indexes
abbrev pub Assignment : Type 0
Assignment = ℕ → ℕ

-- the assignment with index `i` set to `x`
abbrev pub with_number : Assignment → ℕ → ℕ → Assignment
with_number a i x = λ j. if j == i then x else a j

-- the assignment that gives the d-th index the d-th coordinate
abbrev pub assignment : List ℕ → List ℕ → Assignment
assignment [] coords = λ j. 0
assignment (i ∷ is) [] = λ j. 0
assignment (i ∷ is) (x ∷ xs) = with_number (assignment is xs) i x

-- the extents of the indexes, and the elements of the tensors at their coordinates
pub record Elements : Type 0 where
  pub extent : ℕ → ℕ
  pub cell : ℕ → List ℕ → ℕ

-- the numbers of the indexes in a set lie in their extents
abbrev pub IsInExtents : Elements → ℕ → Assignment → Type 0
IsInExtents e set a = (i : ℕ) → IsTrue (has set i) → a i < e.extent i

abbrev pub arithmetic : Arithmetic → ℕ → ℕ → ℕ
arithmetic multiply = wrapping_mul
arithmetic add = wrapping_add
arithmetic subtract = wrapping_sub

-- the sum of the words at the numbers below `n`
abbrev pub sum_below : ℕ → (ℕ → ℕ) → ℕ
sum_below zero f = 0
sum_below (suc n) f = wrapping_add (sum_below n f) (f n)

-- the sum over all numbers of the listed indexes
abbrev pub sum_over : (ℕ → ℕ) → List ℕ → (Assignment → ℕ) → Assignment → ℕ
sum_over extent [] f a = f a
sum_over extent (i ∷ rest) f a = sum_below (extent i) (λ x. sum_over extent rest f (with_number a i x))

-- the value of a tree
abbrev pub value : Elements → ContractionTree → Assignment → ℕ
value e (leaf tensor indexes) a = word (e.cell tensor (map a indexes))
value e (constant number) a = word number
value e (binary op left right) a = arithmetic op (value e left a) (value e right a)
value e (sum indexes operand) a = sum_over e.extent indexes (value e operand) a
