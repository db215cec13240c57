use Rattle.std.proofs.Common.{◌≡◌, take}
use Rattle.std.specs.List.{All}
use Rattle.arrayvec.specs.ArrayVec.{array_vec_len}
use Rattle.tce_block.proofs.Beginning.{counts_of}
use Rattle.tce_block.specs.Cuts.{IsCut, extents_of}
use Rattle.tce_walk.proofs.grouping.group_sizes.Given as goal

abbrev pub invariant-loop-d : goal.invariant-loop-d
invariant-loop-d l = record {
  cuts : All IsCut l.sizes.items;
  counts : extents_of l.sizes.items ≡ counts_of (take l.d l.cuts);
  long : array_vec_len l.sizes ≡ l.d;
}
