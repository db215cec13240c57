use Rattle.std.proofs.Common.{◌≡◌, ◌≤◌, false, length}
use Rattle.tce_search.specs.CandidateLists.{AreFound}
use Rattle.tce_search.proofs.node.find_candidates.Given as goal

abbrev pub invariant-loop-v : goal.invariant-loop-v
invariant-loop-v l = record {
  count : length l.found.lists ≡ l.v;
  found : AreFound l.space l.tree l.found;
  plain : l.fn.bounds.learns ≡ false → l.found.least ≡ l.fn.bounds.ceiling;
  same : l.bounds.ceiling ≡ l.fn.bounds.ceiling;
  learns : l.bounds.learns ≡ l.fn.bounds.learns;
  small : l.found.least ≤ l.fn.bounds.ceiling;
}
