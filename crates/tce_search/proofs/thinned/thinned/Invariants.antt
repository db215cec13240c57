use Rattle.std.proofs.Common.{◌≡◌, length}
use Rattle.tce_search.proofs.Thinning.{IsThinned}
use Rattle.tce_search.proofs.thinned.thinned.Given as goal

abbrev pub decreases-loop-candidate : goal.decreases-loop-candidate
decreases-loop-candidate l = length l.rest.items

abbrev pub invariant-loop-candidate : goal.invariant-loop-candidate
invariant-loop-candidate l = record {
  outer : l.kept.outer ≡ l.fn.list.outer;
  thinned : IsThinned l.fn.list.outer l.fn.list.candidates l.rest.items l.kept.candidates;
}
