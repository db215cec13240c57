use Rattle.std.proofs.Common.{ℕ, ◌<◌, ◌≤◌, get_or}
use Rattle.tce_fusion.specs.Row.{Row}
use Rattle.tce_check.specs.Kept.{IsRowAt}
use Rattle.tce_check.proofs.kept.least_cost.Given as goal

abbrev pub invariant-loop-at : goal.invariant-loop-at
invariant-loop-at l = (k : ℕ) (row : Row) → k < l.at → IsRowAt l.rows (get_or l.places k 0) row → l.least ≤ row.cost
