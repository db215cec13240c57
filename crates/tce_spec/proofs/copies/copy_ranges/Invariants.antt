use Rattle.std.proofs.Common.{◌≡◌}
use Rattle.tce_spec.proofs.DeclaredAnew.{first_ranges}
use Rattle.tce_spec.proofs.copies.copy_ranges.Given as goal

abbrev pub invariant-loop-range : goal.invariant-loop-range
invariant-loop-range l = l.copy ≡ first_ranges l.space l.range
