use Rattle.std.proofs.Common.{length}
use Rattle.std.specs.List.{All, Contains}
use Rattle.tce_search.proofs.fewer.last_of_each.Given as goal

abbrev pub decreases-loop-candidate : goal.decreases-loop-candidate
decreases-loop-candidate l = length l.rest.items

abbrev pub invariant-loop-candidate : goal.invariant-loop-candidate
invariant-loop-candidate l = record {
  rest : All (Contains l.fn.candidates.items) l.rest.items;
  kept : All (Contains l.fn.candidates.items) l.kept.items;
}
