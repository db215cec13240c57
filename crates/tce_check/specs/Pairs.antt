-- Sums of rows of two operands that have no conflict.
use Rattle.std.specs.Prelude.{ℕ, ◌+◌, ◌<◌, ◌≤◌, ◌⊎◌, List}
use Rattle.tce_fusion.specs.Relation.{HasNoConflict}
use Rattle.tce_fusion.specs.Row.{Row, rows_joined}
use Rattle.tce_check.specs.Kept.{IsKept, IsRowAt}
use Rattle.tce_check.specs.Branch.{Passes}
use Rattle.tce_check.specs.declared.pairs.Pairs.{Pairs}
use Rattle.tce_check.specs.declared.branch.Branch.{Branch}

-- the total is at most the sum of each two rows at the first places that have no conflict on the rest of the loops
abbrev pub AreSettled : Pairs → ℕ → List ℕ → ℕ → List ℕ → ℕ → Type 0
AreSettled pairs rest lefts left_count rights right_count =
    (x y : Row) → IsKept pairs.lefts.now lefts left_count x → IsKept pairs.rights.now rights right_count y → HasNoConflict rest (rows_joined x y)
    → pairs.total ≤ x.cost + y.cost

-- each left row that costs as much as its limit has no sum below the total with any right row, and the other way round
abbrev pub AreLimits : Pairs → Type 0
AreLimits pairs =
    (k l : ℕ) (x y : Row) → IsRowAt pairs.lefts.now k x → IsRowAt pairs.rights.now l y → (pairs.left_limit ≤ x.cost) ⊎ (pairs.right_limit ≤ y.cost)
    → pairs.total ≤ x.cost + y.cost

-- the total is at most the sum of each row that is kept and each right one up to a place that passes, where they have no conflict on the rest of the loops
abbrev pub SettlesKept : Pairs → Branch → List ℕ → ℕ → ℕ → Type 0
SettlesKept pairs branch lefts count until =
    (l : ℕ) (x y : Row) → l < until → IsKept pairs.lefts.now lefts count x → IsRowAt pairs.rights.now l y → Passes branch.turns.items y
    → HasNoConflict branch.rest (rows_joined x y) → pairs.total ≤ x.cost + y.cost

-- so it is of each left row up to a place and each right one that pass
abbrev pub SettlesRows : Pairs → Branch → ℕ → Type 0
SettlesRows pairs branch until =
    (k l : ℕ) (x y : Row) → k < until → IsRowAt pairs.lefts.now k x → IsRowAt pairs.rights.now l y → Passes branch.turns.items x → Passes branch.turns.items y
    → HasNoConflict branch.rest (rows_joined x y) → pairs.total ≤ x.cost + y.cost
