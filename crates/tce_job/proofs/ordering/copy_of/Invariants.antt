use Rattle.std.proofs.Common.{◌≡◌, take}
use Rattle.arrayvec.specs.ArrayVec.{array_vec_len}
use Rattle.tce_job.proofs.ordering.copy_of.Given as goal

abbrev pub invariant-loop-index : goal.invariant-loop-index
invariant-loop-index l = record {
  same : l.copy.items ≡ take l.index-index l.order.0.items;
  count : array_vec_len l.copy ≡ l.index-index;
}
