use Rattle.std.proofs.Common.{◌+◌, ◌≤◌}
use Rattle.std.specs.List.{All, AllWithin}
use Rattle.tce_check.specs.Verdict.{WhereJoined}
use Rattle.tce_check.proofs.root.first_below_of.Given as goal

abbrev pub invariant-loop-left : goal.invariant-loop-left
invariant-loop-left l = AllWithin (λ left. All (WhereJoined l.tree l.root (λ x y. l.total ≤ x.cost + y.cost) left) l.rights) l.lefts 0 l.left-index
