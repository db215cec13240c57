use Rattle.std.proofs.Common.{◌≡◌, ℕ, ◌<◌, ◌≤◌}
use Rattle.tce_space.specs.Space.{index_at}
use Rattle.tce_spec.proofs.index_lines.group_end.Given as goal

abbrev pub invariant-loop-index : goal.invariant-loop-index
invariant-loop-index l = (k : ℕ) → l.first ≤ k → k < l.index → (index_at l.space k).of_range ≡ (index_at l.space l.first).of_range
