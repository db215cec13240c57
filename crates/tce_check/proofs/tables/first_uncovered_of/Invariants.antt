use Rattle.std.proofs.Common.{ℕ, ◌<◌}
use Rattle.tce_check.specs.Verdict.{CoversAt}
use Rattle.tce_check.proofs.tables.first_uncovered_of.Given as goal

abbrev pub invariant-loop-v : goal.invariant-loop-v
invariant-loop-v l = (w : ℕ) → w < l.v → CoversAt l.space l.tree l.tables w
