use Rattle.std.proofs.Common.{◌≡◌, ◌≤◌, ◌^◌}
use Rattle.tce_space.specs.IndexSet.{has}
use Rattle.tce_spill.specs.PieceRuns.{largest_below}
use Rattle.tce_spill.proofs.spilling.largest_tile.Given as goal

abbrev pub invariant-loop-v : goal.invariant-loop-v
invariant-loop-v l = record {
  words : l.largest ≡ largest_below l.spec (has l.cuts) l.v;
  limit : l.largest ≤ 2 ^ 20;
}
