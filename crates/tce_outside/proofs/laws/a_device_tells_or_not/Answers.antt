use Rattle.tce_outside.proofs.Told.{disks_tell, sinks_tell}
use Rattle.tce_outside.proofs.laws.a_device_tells_or_not.Goals as goal

pub returns-clause-disks : goal.returns-clause-disks
returns-clause-disks c = disks_tell

pub returns-clause-sinks : goal.returns-clause-sinks
returns-clause-sinks c = sinks_tell
