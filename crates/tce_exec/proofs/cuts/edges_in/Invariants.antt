use Rattle.std.proofs.Common.{◌≡◌, take}
use Rattle.arrayvec.specs.ArrayVec.{array_vec_len}
use Rattle.tce_block.specs.Cuts.{edges_of}
use Rattle.tce_exec.proofs.cuts.edges_in.Given as goal

abbrev pub invariant-loop-cut : goal.invariant-loop-cut
invariant-loop-cut l = record {
  edges_are : l.edges.items ≡ edges_of (take l.cut-index l.cuts);
  count : array_vec_len l.edges ≡ l.cut-index;
}
