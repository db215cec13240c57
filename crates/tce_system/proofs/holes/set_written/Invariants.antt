use Rattle.std.proofs.Common.{◌≡◌, ◌⊎◌, ℕ, ◌<◌, ◌≤◌, false, Some}
use Rattle.std.specs.List.{slice_get}
use Rattle.tce_system.proofs.holes.set_written.Given as goal

abbrev pub invariant-loop-k : goal.invariant-loop-k
invariant-loop-k l = (j : ℕ) → slice_get l.written.items j ≡ Some false → (slice_get l.fn.written.items j ≡ Some false) × ((j < l.first) ⊎ (l.k ≤ j))
