use Rattle.std.proofs.Common.{◌≡◌, ◌-◌, ◌/◌, ◌%◌, length, drop}
use Rattle.tce_space.specs.Tiling.{tile_words}
use Rattle.arrayvec.specs.ArrayVec.{array_vec_len}
use Rattle.tce_sym.proofs.WordCoords.{IsTail}
use Rattle.tce_sym.proofs.tile_rows.coords_of.Given as goal

abbrev pub invariant-loop-done : goal.invariant-loop-done
invariant-loop-done l = record {
  len : array_vec_len l.coords ≡ length l.extents;
  tail : IsTail (drop (length l.extents - l.done) l.extents) (drop (length l.extents - l.done) l.edges) (drop (length l.extents - l.done) l.coords.items) l.inner l.tile (l.word % tile_words l.shape) (l.word / tile_words l.shape);
}
