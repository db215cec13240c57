use Rattle.std.proofs.Common.{◌≡◌, take}
use Rattle.arrayvec.specs.ArrayVec.{array_vec_len}
use Rattle.tce_job.proofs.ordering.copied.Given as goal

abbrev pub invariant-loop-order : goal.invariant-loop-order
invariant-loop-order l = record {
  same : l.copy.items ≡ take l.order-index l.orders.0.items;
  count : array_vec_len l.copy ≡ l.order-index;
}
