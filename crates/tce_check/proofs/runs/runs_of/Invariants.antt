use Rattle.std.proofs.Common.{◌≡◌, ◌≤◌, length}
use Rattle.tce_check.proofs.RunParts.{AreRunsFrom}
use Rattle.tce_check.proofs.runs.runs_of.Given as goal

abbrev pub invariant-loop-place : goal.invariant-loop-place
invariant-loop-place l = record {
  count : length l.runs ≡ 1024;
  inside : l.place ≤ length l.rows;
  later : AreRunsFrom l.loops l.rows l.runs l.place;
}

abbrev pub decreases-loop-place : goal.decreases-loop-place
decreases-loop-place l = l.place
