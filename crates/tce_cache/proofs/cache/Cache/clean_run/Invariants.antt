use Rattle.std.proofs.Common.{◌≡◌}
use Rattle.tce_cache.specs.Cache.{IsCache}
use Rattle.tce_cache.specs.Touch.{with_held}
use Rattle.tce_cache.specs.Runs.{run_cleaned}
use Rattle.tce_cache.proofs.cache.Cache.clean_run.Given as goal

abbrev pub invariant-loop-k : goal.invariant-loop-k
invariant-loop-k l = record {
  state : l.self ≡ with_held l.fn.self (run_cleaned l.run.array l.run.tile l.k l.fn.self.held) l.fn.self.touches;
  cache : IsCache l.self;
  last : l.k-end ≡ l.run.n;
}
