use Rattle.std.proofs.Common.{◌≤◌}
use Rattle.std.specs.List.{AllWithin}
use Rattle.tce_fusion.specs.Row.{Row}
use Rattle.tce_check.proofs.sums.least_of.Given as goal

abbrev pub invariant-loop-row : goal.invariant-loop-row
invariant-loop-row l = AllWithin (λ (row : Row). l.least ≤ row.cost) l.rows 0 l.row-index
