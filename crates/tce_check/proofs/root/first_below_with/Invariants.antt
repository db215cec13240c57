use Rattle.std.proofs.Common.{◌+◌, ◌≤◌}
use Rattle.std.specs.List.{AllWithin}
use Rattle.tce_check.specs.Verdict.{WhereJoined}
use Rattle.tce_check.proofs.root.first_below_with.Given as goal

abbrev pub invariant-loop-right : goal.invariant-loop-right
invariant-loop-right l = AllWithin (WhereJoined l.tree l.root (λ x y. l.total ≤ x.cost + y.cost) l.left) l.rights 0 l.right-index
