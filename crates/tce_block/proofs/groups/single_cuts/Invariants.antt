use Rattle.std.proofs.Common.{◌≡◌, take}
use Rattle.std.specs.List.{All}
use Rattle.arrayvec.specs.ArrayVec.{array_vec_len}
use Rattle.tce_block.specs.Cuts.{IsCut, extents_of, edges_of}
use Rattle.tce_block.specs.Grouped.{ones}
use Rattle.tce_block.proofs.groups.single_cuts.Given as goal

abbrev pub invariant-loop-extent : goal.invariant-loop-extent
invariant-loop-extent l = record {
  cuts : All IsCut l.cuts.items;
  extents : extents_of l.cuts.items ≡ take l.extent-index l.lengths;
  edges : edges_of l.cuts.items ≡ ones (take l.extent-index l.lengths);
  long : array_vec_len l.cuts ≡ l.extent-index;
}
