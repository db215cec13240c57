use Rattle.std.proofs.Common.{◌≡◌, ◌-◌, ℕ, length, get_or, set, slice_index}
use Rattle.tce_exec.specs.Storages.{work_of, IsSame}
use Rattle.tce_exec.proofs.Bodies.{AreTurnsOf}
use Rattle.tce_exec.proofs.body.+run_loops.Given as goal

abbrev pub decreases-run_loops : goal.decreases-run_loops
decreases-run_loops g l = length l.at.now.loops.now - l.depth

abbrev pub invariant-loop-x : goal.invariant-loop-x
invariant-loop-x g l = record {
  turns : AreTurnsOf (work_of g.D.Disk.files l.evaluation l.fn.store) (work_of g.D.Disk.files l.evaluation l.store) l.at.ops.now l.at.loops.now l.at.from.now l.at.len.now l.depth l.x (slice_index l.fn.numbers);
  numbers_set : (z : ℕ) → set l.numbers (get_or l.at.loops.now l.depth 0) z ≡ set l.fn.numbers (get_or l.at.loops.now l.depth 0) z;
  same : IsSame l.fn.store l.store;
  counted : g.D.Disk.faults l.store.disk.now ≡ g.D.Disk.faults l.fn.store.disk.now;
}
