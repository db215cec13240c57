use Rattle.tce_job.proofs.Counted.{IsCounted}
use Rattle.tce_job.proofs.takings.tile_count.Given as goal

abbrev pub invariant-loop-t : goal.invariant-loop-t
invariant-loop-t l = IsCounted l.spec l.t-index l.count
