use Rattle.std.proofs.Common.{◌≡◌}
use Rattle.arrayvec.specs.ArrayVec.{array_vec_len}
use Rattle.tce_job.proofs.ordering.exchanged.Given as goal

abbrev pub invariant-loop-w : goal.invariant-loop-w
invariant-loop-w l = array_vec_len l.exchanged ≡ l.w
