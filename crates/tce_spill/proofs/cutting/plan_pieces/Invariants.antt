use Rattle.std.proofs.Common.{◌≡◌, length}
use Rattle.tce_space.specs.IndexSet.{has}
use Rattle.tce_spill.specs.InTurn.{FitBefore}
use Rattle.tce_spill.specs.Planned.{HavePlansBelow}
use Rattle.tce_spill.proofs.cutting.plan_pieces.Given as goal

abbrev pub invariant-loop-root : goal.invariant-loop-root
invariant-loop-root l = record {
  fit : FitBefore l.spec.declarations.space l.spec.tree (has l.cuts) l.limit l.root;
  count : length l.plans.items ≡ l.root;
  plans : HavePlansBelow l.spec (has l.cuts) l.plans.items l.root;
}
