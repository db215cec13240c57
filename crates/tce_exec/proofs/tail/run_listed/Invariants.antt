use Rattle.std.proofs.Common.{◌≡◌, map, drop, length, slice_index}
use Rattle.tce_block.specs.Cuts.{part_of}
use Rattle.tce_exec.specs.Storages.{work_of, IsSame}
use Rattle.tce_exec.specs.Along.{IsAlong}
use Rattle.tce_exec.specs.Blocks.{AreOutside, loops_of}
use Rattle.tce_exec.specs.Evaluations.{places_of}
use Rattle.tce_exec.specs.Positions.{IsPosition}
use Rattle.tce_exec.specs.Plans.{IsNest}
use Rattle.tce_exec.proofs.tail.run_listed.Given as goal

abbrev pub invariant-loop-k : goal.invariant-loop-k
invariant-loop-k g l =
    record {
      along : IsAlong (work_of g.D.Disk.files l.evaluation l.fn.store) (work_of g.D.Disk.files l.evaluation l.store) l.tail (slice_index l.numbers) (drop l.k (map part_of l.fn.plan.list.items));
      others : AreOutside (loops_of l.tail) (slice_index l.numbers) (slice_index l.first.numbers);
      position : IsPosition l.evaluation.space.now l.first;
      nest : IsNest (places_of l.evaluation) l.tail l.plan.nest;
      same : IsSame l.fn.store l.store;
      made : l.plan.made ≡ l.fn.plan.made;
      tail_is : l.plan.tail ≡ l.fn.plan.tail;
      cuts_are : l.plan.cuts ≡ l.fn.plan.cuts;
      few_are : l.plan.few ≡ l.fn.plan.few;
      list_is : l.plan.list ≡ l.fn.plan.list;
      last : l.k-end ≡ length l.fn.plan.list.items;
      counted : g.D.Disk.faults l.store.disk.now ≡ g.D.Disk.faults l.fn.store.disk.now;
    }
