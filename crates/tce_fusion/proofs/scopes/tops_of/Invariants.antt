use Rattle.std.proofs.Common.{ℕ, ◌≡◌, ◌<◌, ◌≤◌, length, slice_index}
use Rattle.tce_tree.specs.ContractionTree.{operations}
use Rattle.tce_fusion.specs.Tops.{IsTop}
use Rattle.tce_fusion.proofs.scopes.tops_of.Given as goal

abbrev pub invariant-loop-v : goal.invariant-loop-v
invariant-loop-v l = record {
  whole : length l.tops ≡ 32;
  tops : (w : ℕ) → l.v ≤ w → w < operations l.tree → IsTop l.tree l.fusion.0.items l.i w (slice_index l.tops w);
}
