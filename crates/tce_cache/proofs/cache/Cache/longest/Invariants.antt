use Rattle.std.proofs.Common.{◌≡◌, ◌-◌, ◌≤◌}
use Rattle.tce_cache.specs.Runs.{IsRun, run_of}
use Rattle.tce_cache.proofs.cache.Cache.longest.Given as goal

abbrev pub invariant-loop-run : goal.invariant-loop-run
invariant-loop-run l = record {
  run : IsRun l.self l.run;
  begins : l.run ≡ run_of l.fn.first l.run.n;
  few : l.run.n ≤ l.most;
}

abbrev pub decreases-loop-run : goal.decreases-loop-run
decreases-loop-run l = l.most - l.run.n
