use Rattle.std.proofs.Common.{◌≡◌}
use Rattle.tce_spec.proofs.DeclaredAnew.{first_indexes}
use Rattle.tce_spec.proofs.copies.copy_indexes.Given as goal

abbrev pub invariant-loop-index : goal.invariant-loop-index
invariant-loop-index l = l.copy ≡ first_indexes l.space l.index
