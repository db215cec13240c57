use Rattle.std.proofs.Common.{ℕ, ◌<◌, ◌≤◌, get_or}
use Rattle.tce_fusion.specs.Row.{Row}
use Rattle.tce_check.specs.Kept.{IsRowAt, IsUppermost, StayKept}
use Rattle.tce_check.proofs.kept.sift.Given as goal

abbrev pub invariant-loop-at : goal.invariant-loop-at
invariant-loop-at l = record {
  kept : l.kept ≤ l.at;
  stays : StayKept l.count l.fn.places l.places;
  passed : (k : ℕ) (row : Row) → l.kept ≤ k → k < l.at → IsRowAt l.rows (get_or l.places k 0) row → IsUppermost l.rest row l.index → ⊥;
}
