use Rattle.std.proofs.Common.{◌≡◌, ◌+◌, ◌-◌, ◌<◌, ◌≤◌, ℕ, List, slice_index}
use Rattle.tce_space.specs.Box.{place, IsInside}
use Rattle.tce_space.specs.Tiling.{word_number}
use Rattle.tce_tools.specs.Runs.{AreElements}
use Rattle.tce_tools.specs.Bands.{IsAt}
use Rattle.tce_tools.proofs.shuffle.tile.Given as goal

abbrev pub invariant-loop-done : goal.invariant-loop-done
invariant-loop-done l = record {
  done : l.done ≤ l.band.len;
  elements : (element : List ℕ → ℕ) → AreElements l.shape element l.band.start l.words → (xs : List ℕ) → IsInside l.shape.extents xs → place l.shape.extents xs < l.band.start + l.done → (index : ℕ) → IsAt l.band (word_number l.shape xs) index → slice_index l.tiled index ≡ element xs;
  padding : (index : ℕ) → ((xs : List ℕ) → IsInside l.shape.extents xs → place l.shape.extents xs < l.band.start + l.done → IsAt l.band (word_number l.shape xs) index → ⊥) → slice_index l.tiled index ≡ 0;
}

abbrev pub decreases-loop-done : goal.decreases-loop-done
decreases-loop-done l = l.band.len - l.done
