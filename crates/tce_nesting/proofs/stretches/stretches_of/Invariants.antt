use Rattle.std.proofs.Common.{◌≡◌, ◌≤◌, length}
use Rattle.tce_nesting.proofs.StretchParts.{AreStretchesFrom}
use Rattle.tce_nesting.proofs.stretches.stretches_of.Given as goal

abbrev pub invariant-loop-place : goal.invariant-loop-place
invariant-loop-place l = record {
  count : length l.stretches ≡ 1024;
  inside : l.place ≤ length l.choices;
  later : AreStretchesFrom l.choices l.stretches l.place;
}

abbrev pub decreases-loop-place : goal.decreases-loop-place
decreases-loop-place l = l.place
