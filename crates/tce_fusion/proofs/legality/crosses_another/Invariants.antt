use Rattle.std.proofs.Common.{ℕ, ◌<◌, IsTrue}
use Rattle.tce_space.specs.IndexSet.{has}
use Rattle.tce_fusion.specs.Tops.{AreNested, joined, row}
use Rattle.tce_fusion.proofs.legality.crosses_another.Given as goal

abbrev pub invariant-loop-j : goal.invariant-loop-j
invariant-loop-j l = (k : ℕ) → k < l.j → IsTrue (has l.loops k)
    → AreNested l.count (joined (row l.scopes.0 l.i) l.v) (joined (row l.scopes.0 k) l.v)
