use Rattle.std.proofs.Common.{◌≡◌}
use Rattle.arrayvec.specs.ArrayVec.{array_vec_len}
use Rattle.tce_tools.proofs.Coords.{IsReached}
use Rattle.tce_tools.proofs.run.coords_at.Given as goal

abbrev pub invariant-loop-extent : goal.invariant-loop-extent
invariant-loop-extent l = record {
  len : array_vec_len l.coords ≡ l.extent-index;
  reached : IsReached l.extents l.coords.items l.extent-index l.rest l.left l.number;
}
