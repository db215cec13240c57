-- Sums over the assignments of a box of loops, and over those of its blocks. Words are numbers modulo 2 ^ 64.
use Rattle.std.specs.Prelude.{◌≡◌, ℕ, ◌+◌, ◌<◌, ◌^◌, IsTrue, List, map}
use Rattle.std.specs.List.Sorted.{IsPermutation}
use Rattle.tce_base.specs.Word.{wrapping_sum}
use Rattle.tce_space.specs.Tiling.{ArePositive}
use Rattle.tce_tree.specs.WellFormed.{is_distinct}
use Rattle.tce_tree.specs.Value.{Assignment, assignment, sum_over}
use Rattle.tce_block.specs.Parts.{Part, blocks}

-- the assignment with the beginnings of a part added to the numbers of its indexes
abbrev pub moved : List ℕ → List ℕ → Assignment → Assignment
moved indexes from a = λ i. assignment indexes from i + a i

-- the sum over the assignments of a part, with its loops in this order
abbrev pub part_sum : List ℕ → List ℕ → (Assignment → ℕ) → Assignment → Part → ℕ
part_sum indexes order f a part = sum_over (assignment indexes part.len) order (λ b. f (moved indexes part.from b)) a

-- a sum over a box is the sum of those over its blocks, whatever the orders of the loops in the box, of the dimensions, and of the loops in the blocks
abbrev pub BlocksSum : Type 0
BlocksSum =
    (extent edge : ℕ → ℕ) (order indexes inner : List ℕ) (f : Assignment → ℕ) (a : Assignment)
    → IsTrue (is_distinct indexes) → IsPermutation indexes order → IsPermutation indexes inner → ArePositive (map edge indexes) → ((b : Assignment) → f b < 2 ^ 64)
    → sum_over extent order f a ≡ wrapping_sum (map (part_sum indexes inner f a) (blocks (map extent indexes) (map edge indexes)))
