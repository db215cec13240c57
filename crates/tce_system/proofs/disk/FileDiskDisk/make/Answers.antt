use Rattle.std.proofs.Common.{◌∙◌, ap}
use Rattle.tce_outside.specs.Schedule.{one_more}
use Rattle.tce_system.proofs.disk.FileDiskDisk.make.Goals as goal

pub returns-in-Ok : goal.returns-in-Ok
returns-in-Ok g c = record { counted = c.begin.ensures.faults }

pub returns-in-Err-Memory : goal.returns-in-Err-Memory
returns-in-Err-Memory g c = record { counted = c.begin.ensures.faults }

pub returns-in-Err : goal.returns-in-Err
returns-in-Err g c = record { counted = c.count_fault.ensures ∙ ap one_more c.begin.ensures.faults }
