use Rattle.std.proofs.Common.{◌≡◌, ◌-◌, ◌≤◌, take}
use Rattle.std.specs.Option.{ForSome}
use Rattle.tce_base.specs.Word.{wrapping_sum}
use Rattle.tce_array.specs.Forms.{cell}
use Rattle.tce_tools.specs.Flat.{in_order, contents}
use Rattle.tce_tools.proofs.sum.cell_sum.Given as goal

abbrev pub invariant-loop-done : goal.invariant-loop-done
invariant-loop-done g l = record {
  done : l.done ≤ l.elements;
  sum : ForSome (g.D.Disk.files l.fn.disk) (λ fs. l.total ≡ wrapping_sum (take l.done (in_order l.shape (cell l.fn.form l.shape (contents fs l.array)))));
  files : g.D.Disk.files l.disk ≡ g.D.Disk.files l.fn.disk;
  later : g.D.Disk.faults l.fn.disk ≤ g.D.Disk.faults l.disk;
  counted : g.D.Disk.faults l.disk ≡ g.D.Disk.faults l.fn.disk;
}

abbrev pub decreases-loop-done : goal.decreases-loop-done
decreases-loop-done g l = l.elements - l.done
