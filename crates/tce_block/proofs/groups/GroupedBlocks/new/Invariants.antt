use Rattle.std.proofs.Common.{◌≡◌, take}
use Rattle.arrayvec.specs.ArrayVec.{array_vec_len}
use Rattle.tce_block.specs.Cuts.{extents_of, edges_of}
use Rattle.tce_block.proofs.groups.GroupedBlocks.new.Given as goal

abbrev pub invariant-loop-cut : goal.invariant-loop-cut
invariant-loop-cut l = record {
  extents : l.extents.items ≡ extents_of (take l.cut-index l.cut-items);
  edges : l.edges.items ≡ edges_of (take l.cut-index l.cut-items);
  first_len : array_vec_len l.extents ≡ l.cut-index;
  second_len : array_vec_len l.edges ≡ l.cut-index;
}
