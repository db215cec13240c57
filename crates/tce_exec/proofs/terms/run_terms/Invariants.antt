use Rattle.std.proofs.Common.{◌≡◌}
use Rattle.tce_block.specs.Cuts.{part_of}
use Rattle.tce_walk.specs.Machine.{assignment_of}
use Rattle.tce_exec.specs.Storages.{work_of, IsSame}
use Rattle.tce_exec.specs.Positions.{IsPosition}
use Rattle.tce_exec.specs.Combining.{IsAlongTerms}
use Rattle.tce_exec.proofs.terms.run_terms.Given as goal

abbrev pub invariant-loop-n : goal.invariant-loop-n
invariant-loop-n g l =
    record {
      along : IsAlongTerms (work_of g.D.Disk.files l.evaluation l.fn.store) (work_of g.D.Disk.files l.evaluation l.store) l.sum (assignment_of l.numbers) (part_of l.block) l.n;
      position : IsPosition l.evaluation.space.now l.position;
      same : IsSame l.fn.store l.store;
      counted : g.D.Disk.faults l.store.disk.now ≡ g.D.Disk.faults l.fn.store.disk.now;
    }
