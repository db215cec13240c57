use Rattle.tce_job.proofs.OpenedTensors.{IsOpening}
use Rattle.tce_job.proofs.opening.open_operands.Given as goal

abbrev pub invariant-loop-t : goal.invariant-loop-t
invariant-loop-t g l =
    IsOpening l.spec (g.D.Disk.files l.fn.disk) (g.D.Disk.files l.disk) (g.D.Disk.faults l.fn.disk) (g.D.Disk.faults l.disk) l.forms l.t-index
