use Rattle.std.proofs.Common.{ℕ, ◌-◌, ◌<◌, length}
use Rattle.std.specs.List.{All}
use Rattle.tce_search.specs.Ends.{IsSettled}
use Rattle.tce_search.proofs.starts.starts_of.Given as goal

abbrev pub invariant-loop-place : goal.invariant-loop-place
invariant-loop-place l = record {
  inside : All (λ place. place < length l.rights.candidates.now) l.places.items;
  each : (k : ℕ) → k < l.place → IsSettled l.rights.limit l.rights.runs.now l.ends l.cost l.places.items k;
}

abbrev pub decreases-loop-place : goal.decreases-loop-place
decreases-loop-place l = length l.rights.candidates.now - l.place
