use Rattle.std.proofs.Common.{◌-◌}
use Rattle.tce_search.specs.Joins.{RunCovered, HasGrownBy}
use Rattle.tce_search.proofs.joins.add_run.Given as goal

abbrev pub invariant-loop-place : goal.invariant-loop-place
invariant-loop-place l = record {
  covered : RunCovered l.fn.list.outer l.list.candidates l.left l.rights l.from l.place;
  grown : HasGrownBy l.left l.rights l.fn.list l.list;
}

abbrev pub decreases-loop-place : goal.decreases-loop-place
decreases-loop-place l = l.until - l.place
