use Rattle.std.proofs.Common.{◌≡◌}
use Rattle.arrayvec.specs.ArrayVec.{array_vec_len}
use Rattle.tce_job.proofs.ordering.with_exchange.Given as goal

abbrev pub invariant-loop-index : goal.invariant-loop-index
invariant-loop-index l = array_vec_len l.loops ≡ l.index-index
