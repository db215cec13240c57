use Rattle.std.proofs.Common.{ℕ, ◌<◌, ◌≤◌, length, get_or}
use Rattle.tce_search.specs.declared.groups.Entry.{Entry}
use Rattle.tce_search.proofs.groups.place_for.Given as goal

abbrev pub invariant-loop-place : goal.invariant-loop-place
invariant-loop-place l = record {
  inside : l.place ≤ length l.entries;
  behind : (k : ℕ) (e : Entry) → l.place ≤ k → k < length l.entries → l.cost ≤ (get_or l.entries k e).cost;
}

abbrev pub decreases-loop-place : goal.decreases-loop-place
decreases-loop-place l = l.place
