use Rattle.std.proofs.Common.{◌≡◌, ℕ, ◌<◌, length, get_or}
use Rattle.tce_nesting.specs.declared.runs.Run.{Run}
use Rattle.tce_nesting.specs.Ends.{IsRun}
use Rattle.tce_search.specs.Laws.{rows_of}
use Rattle.tce_search.proofs.runs.single_runs.Given as goal

abbrev pub invariant-loop-candidate : goal.invariant-loop-candidate
invariant-loop-candidate l = record {
  count : length l.runs.items ≡ l.candidate-index;
  each : (k : ℕ) (r : Run) → k < l.candidate-index → IsRun l.loops (rows_of l.candidates) k (get_or l.runs.items k r);
}
