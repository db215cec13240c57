use Rattle.std.proofs.Common.{◌≡◌, length}
use Rattle.tce_cache.proofs.table.Spread.new.Given as goal

abbrev pub invariant-loop-n : goal.invariant-loop-n
invariant-loop-n l = length l.firsts.items ≡ l.n-index
