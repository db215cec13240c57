use Rattle.std.proofs.Common.{ℕ}
use Rattle.tce_exec.proofs.merging.+longest_row.Given as goal

abbrev pub decreases-longest_row : goal.decreases-longest_row
decreases-longest_row l = l.row.depth
