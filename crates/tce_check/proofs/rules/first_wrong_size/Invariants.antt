use Rattle.std.proofs.Common.{ℕ, ◌<◌}
use Rattle.tce_check.specs.Verdict.{HasSize}
use Rattle.tce_check.proofs.rules.first_wrong_size.Given as goal

abbrev pub invariant-loop-v : goal.invariant-loop-v
invariant-loop-v l = (w : ℕ) → w < l.v → HasSize l.space l.tree l.plan w
