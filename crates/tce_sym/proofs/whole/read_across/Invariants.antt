use Rattle.std.proofs.Common.{◌≡◌, ◌≤◌, ◌-◌}
use Rattle.std.specs.Option.{ForSome}
use Rattle.tce_tools.specs.Flat.{contents}
use Rattle.tce_sym.specs.Lines.{ArePairs}
use Rattle.tce_sym.proofs.whole.read_across.Given as goal

abbrev pub invariant-loop-from : goal.invariant-loop-from
invariant-loop-from g l = record {
  from : l.from ≤ l.grid.pairs;
  read : ForSome (g.D.Disk.files l.fn.disk) (λ fs. ArePairs l.grid l.from (contents fs l.packed) l.lines);
  files : g.D.Disk.files l.disk ≡ g.D.Disk.files l.fn.disk;
  later : g.D.Disk.faults l.fn.disk ≤ g.D.Disk.faults l.disk;
  counted : g.D.Disk.faults l.disk ≡ g.D.Disk.faults l.fn.disk;
}

abbrev pub decreases-loop-from : goal.decreases-loop-from
decreases-loop-from g l = l.grid.pairs - l.from
