use Rattle.std.proofs.Common.{◌≡◌, length}
use Rattle.tce_cache.proofs.cache.tile_counts.Given as goal

abbrev pub invariant-loop-array : goal.invariant-loop-array
invariant-loop-array l = length l.counts.items ≡ l.array-index
