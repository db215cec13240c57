use Rattle.std.proofs.Common.{◌≡◌, ◌++◌, length, slice_index}
use Rattle.tce_block.specs.Cuts.{part_of}
use Rattle.tce_exec.specs.Storages.{work_of, IsSame}
use Rattle.tce_exec.specs.Blocks.{AreOutside}
use Rattle.tce_exec.specs.Evaluations.{places_of}
use Rattle.tce_exec.specs.Positions.{IsPosition}
use Rattle.tce_exec.specs.TermBlocks.{around, IsTermNest}
use Rattle.tce_exec.specs.TermPlans.{left_blocks, IsAlongTerm}
use Rattle.tce_exec.proofs.terms.run_term.Given as goal

abbrev pub invariant-loop-more : goal.invariant-loop-more
invariant-loop-more g l =
    record {
      along : IsAlongTerm (work_of g.D.Disk.files l.evaluation l.fn.store) (work_of g.D.Disk.files l.evaluation l.store) l.run (left_blocks l.more (part_of l.plan.next) l.plan.blocks) l.before;
      loops_are : l.plan.loops.items ≡ l.run.order.now ++ l.run.inner.now;
      others : AreOutside l.plan.loops.items (around l.run) (slice_index l.first.numbers);
      position : IsPosition l.evaluation.space.now l.first;
      nest : IsTermNest (places_of l.evaluation) l.run l.plan.loops.items l.plan.nest;
      same : IsSame l.fn.store l.store;
      counted : g.D.Disk.faults l.store.disk.now ≡ g.D.Disk.faults l.fn.store.disk.now;
    }

abbrev pub decreases-loop-more : goal.decreases-loop-more
decreases-loop-more g l = length (left_blocks l.more (part_of l.plan.next) l.plan.blocks)
