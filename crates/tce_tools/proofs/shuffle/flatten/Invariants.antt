use Rattle.std.proofs.Common.{◌≡◌, ◌+◌, ◌-◌, ◌<◌, ◌≤◌, ℕ, List, slice_index}
use Rattle.tce_space.specs.Box.{place, IsInside}
use Rattle.tce_tools.specs.Bands.{AreTiled}
use Rattle.tce_tools.proofs.shuffle.flatten.Given as goal

abbrev pub invariant-loop-done : goal.invariant-loop-done
invariant-loop-done l = record {
  done : l.done ≤ l.band.len;
  elements : (element : List ℕ → ℕ) → AreTiled l.shape l.band element l.tiled → (k : ℕ) → k < l.done → (xs : List ℕ) → IsInside l.shape.extents xs → place l.shape.extents xs ≡ l.band.start + k → slice_index l.words k ≡ element xs;
}

abbrev pub decreases-loop-done : goal.decreases-loop-done
decreases-loop-done l = l.band.len - l.done
