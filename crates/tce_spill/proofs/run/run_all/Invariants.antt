use Rattle.std.proofs.Common.{◌≡◌}
use Rattle.tce_space.specs.IndexSet.{has}
use Rattle.tce_spill.specs.Planned.{HavePlansFrom}
use Rattle.tce_spill.specs.Left.{files_at}
use Rattle.tce_spill.specs.Reports.{HasRun}
use Rattle.tce_spill.proofs.RunTurns.{AreHeld}
use Rattle.tce_spill.proofs.run.run_all.Given as goal

abbrev pub invariant-loop-root : goal.invariant-loop-root
invariant-loop-root g l = record {
  told : g.D.Disk.files l.disk ≡ files_at (g.D.Disk.files l.fn.disk) l.spec (has l.spilling.cuts) l.root;
  held : AreHeld (g.D.Disk.files l.fn.disk) l.spec (has l.spilling.cuts) l.root;
  plans : HavePlansFrom l.spec (has l.spilling.cuts) l.plans.items l.root;
  run : HasRun l.spec (has l.spilling.cuts) l.root l.spilling.budget (g.R.Room.takings l.fn.room) (g.R.Room.takings l.room) l.text.items;
  counted : g.D.Disk.faults l.disk ≡ g.D.Disk.faults l.fn.disk;
}
