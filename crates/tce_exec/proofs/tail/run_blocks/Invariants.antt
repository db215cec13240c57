use Rattle.std.proofs.Common.{◌≡◌, length, slice_index}
use Rattle.tce_exec.specs.Storages.{work_of, IsSame}
use Rattle.tce_exec.specs.Along.{IsAlong}
use Rattle.tce_exec.specs.Blocks.{AreOutside, loops_of}
use Rattle.tce_exec.specs.Evaluations.{places_of}
use Rattle.tce_exec.specs.Positions.{IsPosition}
use Rattle.tce_exec.specs.Plans.{IsNest}
use Rattle.tce_exec.proofs.tail.run_blocks.Given as goal

abbrev pub invariant-loop-plan : goal.invariant-loop-plan
invariant-loop-plan g l =
    record {
      along : IsAlong (work_of g.D.Disk.files l.evaluation l.fn.store) (work_of g.D.Disk.files l.evaluation l.store) l.tail (slice_index l.numbers) l.plan.blocks;
      others : AreOutside (loops_of l.tail) (slice_index l.numbers) (slice_index l.first.numbers);
      position : IsPosition l.evaluation.space.now l.first;
      nest : IsNest (places_of l.evaluation) l.tail l.plan.nest;
      same : IsSame l.fn.store l.store;
      made : l.plan.made ≡ l.fn.plan.made;
      tail_is : l.plan.tail ≡ l.fn.plan.tail;
      cuts_are : l.plan.cuts ≡ l.fn.plan.cuts;
      few_are : l.plan.few ≡ l.fn.plan.few;
      list_is : l.plan.list ≡ l.fn.plan.list;
      counted : g.D.Disk.faults l.store.disk.now ≡ g.D.Disk.faults l.fn.store.disk.now;
    }

abbrev pub decreases-loop-plan : goal.decreases-loop-plan
decreases-loop-plan g l = length l.plan.blocks
