use Rattle.std.proofs.Common.{◌≡◌, length}
use Rattle.tce_search.specs.CandidateLists.{AreKept}
use Rattle.tce_search.proofs.pass.few_candidates.Given as goal

abbrev pub invariant-loop-v : goal.invariant-loop-v
invariant-loop-v l = record {
  count : length l.found.lists ≡ l.v;
  kept : AreKept l.space l.tree l.found;
  least : l.found.least ≡ 0;
}
