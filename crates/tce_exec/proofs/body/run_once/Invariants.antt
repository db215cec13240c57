use Rattle.std.proofs.Common.{◌≡◌, ◌*◌, slice_index, take}
use Rattle.tce_exec.specs.Bodies.{after_ops}
use Rattle.tce_exec.specs.Steps.{IsKept, IsChanged}
use Rattle.tce_exec.specs.Storages.{work_of, setting_of, IsSame}
use Rattle.tce_exec.proofs.body.run_once.Given as goal

abbrev pub invariant-loop-op : goal.invariant-loop-op
invariant-loop-op g l = record {
  kept : IsKept (work_of g.D.Disk.files l.evaluation l.fn.store) (work_of g.D.Disk.files l.evaluation l.store);
  changed : IsChanged (after_ops (setting_of g.D.Disk.files l.evaluation l.fn.store) (slice_index l.numbers) (take l.op-index l.ops)) (3 * l.op-index)
      (work_of g.D.Disk.files l.evaluation l.fn.store) (work_of g.D.Disk.files l.evaluation l.store);
  same : IsSame l.fn.store l.store;
  counted : g.D.Disk.faults l.store.disk.now ≡ g.D.Disk.faults l.fn.store.disk.now;
}
