use Rattle.std.proofs.Common.{◌≡◌, ◌++◌, take, set}
use Rattle.tce_fusion.specs.Row.{rows_at}
use Rattle.tce_search.specs.Laws.{rows_of}
use Rattle.tce_search.proofs.plan.push_rows.Given as goal

abbrev pub invariant-loop-candidate : goal.invariant-loop-candidate
invariant-loop-candidate l = l.tables ≡ set l.fn.tables l.v (rows_at l.fn.tables l.v ++ rows_of (take l.candidate-index l.candidates))
