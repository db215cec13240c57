use Rattle.std.proofs.Common.{◌≡◌, take}
use Rattle.tce_batch.specs.Left.{files_at}
use Rattle.tce_batch.specs.Reports.{HasRun}
use Rattle.tce_batch.proofs.run.run_all.Given as goal

abbrev pub invariant-loop-number : goal.invariant-loop-number
invariant-loop-number g l = record {
  told : g.D.Disk.files l.disk ≡ files_at (g.D.Disk.files l.fn.disk) l.batch l.number;
  run : HasRun (take l.number l.batch) l.budget (g.R.Room.takings l.fn.room) (g.R.Room.takings l.room) l.text.items;
  counted : g.D.Disk.faults l.disk ≡ g.D.Disk.faults l.fn.disk;
}
