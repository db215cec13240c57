use Rattle.std.proofs.Common.{◌<◌, ◌≤◌}
use Rattle.tce_tree.specs.ContractionTree.{operations}
use Rattle.tce_search.proofs.bounds.Bounds.target.Given as goal

abbrev pub invariant-loop-p : goal.invariant-loop-p
invariant-loop-p l = record {
  small : l.target ≤ l.self.ceiling;
  below : l.below < operations l.tree;
}
