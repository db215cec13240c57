use Rattle.std.proofs.Common.{ℕ, ◌<◌, IsTrue}
use Rattle.tce_space.specs.IndexSet.{has}
use Rattle.tce_fusion.specs.Tops.{AreNested, joined, row}
use Rattle.tce_fusion.proofs.legality.loops_cross.Given as goal

abbrev pub invariant-loop-i : goal.invariant-loop-i
invariant-loop-i l = (k j : ℕ) → k < l.i → j < 24 → IsTrue (has l.loops k) → IsTrue (has l.loops j)
    → AreNested l.count (joined (row l.scopes.0 k) l.v) (joined (row l.scopes.0 j) l.v)
