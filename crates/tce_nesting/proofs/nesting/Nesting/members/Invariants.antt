use Rattle.std.proofs.Common.{◌≡◌, ℕ, take}
use Rattle.tce_space.specs.IndexSet.{has}
use Rattle.tce_fusion.specs.StateClasses.{in_class}
use Rattle.tce_nesting.proofs.nesting.Nesting.members.Given as goal

abbrev pub invariant-loop-class : goal.invariant-loop-class
invariant-loop-class l = (i : ℕ) → has l.all i ≡ in_class (take l.class-index l.class-items) i
