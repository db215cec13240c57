use Rattle.std.proofs.Common.{◌≤◌, length}
use Rattle.tce_nesting.specs.Ends.{AreRuns}
use Rattle.tce_search.specs.Laws.{rows_of}
use Rattle.tce_search.proofs.runs.runs_of.Given as goal

abbrev pub invariant-loop-place : goal.invariant-loop-place
invariant-loop-place l = record {
  inside : l.place ≤ length l.candidates;
  runs : AreRuns l.fn.loops (rows_of l.candidates) l.runs.items;
}

abbrev pub decreases-loop-place : goal.decreases-loop-place
decreases-loop-place l = l.place
