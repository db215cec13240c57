use Rattle.std.proofs.Common.{◌*◌, ◌<◌, ◌≤◌}
use Rattle.tce_cache.specs.Frames.{max_frames}
use Rattle.tce_cache.proofs.table.bucket_count.Given as goal

abbrev pub invariant-loop : goal.invariant-loop
invariant-loop l = (0 < l.count) × (l.count ≤ 2 * max_frames)
