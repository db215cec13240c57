use Rattle.std.proofs.Common.{◌≡◌, ℕ, IsTrue, drop}
use Rattle.tce_space.specs.IndexSet.{has}
use Rattle.tce_fusion.specs.Relation.{above}
use Rattle.tce_nesting.proofs.nesting.Nesting.outermost.Given as goal

abbrev pub invariant-loop-class : goal.invariant-loop-class
invariant-loop-class l = (i j : ℕ) → IsTrue (has l.rest i) → IsTrue (has l.rest j) → above l.class-items i j ≡ above (drop l.class-index l.class-items) i j
