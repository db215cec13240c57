use Rattle.std.proofs.Common.{◌≡◌}
use Rattle.std.specs.List.{All, AllWithin, AllPairs}
use Rattle.tce_search.specs.Ends.{AreStarts}
use Rattle.tce_search.specs.Groups.{LeavesOpen}
use Rattle.tce_search.specs.Joins.{IsSomeJoinBelow, JoinCovered}
use Rattle.tce_search.proofs.joins.add_joins_by_runs.Given as goal

abbrev pub invariant-loop-left : goal.invariant-loop-left
invariant-loop-left l = record {
  outer : l.list.outer ≡ l.fn.loops;
  starts : AreStarts l.side l.starts;
  covered : AllWithin (λ left. All (JoinCovered l.side.limit l.fn.loops l.list.candidates left) l.side.candidates.now) l.fn.lefts 0 l.left-index;
  joins : All (IsSomeJoinBelow l.side.limit l.fn.loops l.fn.lefts l.side.candidates.now) l.list.candidates;
  later : AllPairs (LeavesOpen l.fn.loops) l.list.candidates;
}
