use Rattle.std.proofs.Common.{◌≡◌, ℕ, ◌<◌, ◌≤◌, false}
use Rattle.tce_space.specs.IndexSet.{has}
use Rattle.tce_spec.specs.Storable.{storable}
use Rattle.tce_spill.proofs.cutting.storable_nodes.Given as goal

abbrev pub invariant-loop-v : goal.invariant-loop-v
invariant-loop-v l = record {
  before : (u : ℕ) → u < l.v → has l.nodes u ≡ storable l.space l.tree u;
  behind : (u : ℕ) → l.v ≤ u → has l.nodes u ≡ false;
}
