use Rattle.std.proofs.Common.{◌≡◌, ◌-◌, ◌≤◌}
use Rattle.std.specs.Option.{ForSome}
use Rattle.tce_array.specs.declared.form.Form.TheVariants.{Narrow}
use Rattle.tce_tools.specs.declared.storage.Storage.TheVariants.{Array}
use Rattle.tce_tools.specs.Flat.{contents}
use Rattle.tce_tools.specs.Storage.{element_in}
use Rattle.tce_tools.specs.Answers.{FitBefore}
use Rattle.tce_tools.proofs.conversion.find_misfit.Given as goal

abbrev pub invariant-loop-done : goal.invariant-loop-done
invariant-loop-done g l = record {
  done : l.done ≤ l.elements;
  fits : ForSome (g.D.Disk.files l.fn.disk) (λ fs. FitBefore Narrow l.shape (element_in (Array l.fn.form) l.shape (contents fs l.name)) l.done);
  files : g.D.Disk.files l.disk ≡ g.D.Disk.files l.fn.disk;
  later : g.D.Disk.faults l.fn.disk ≤ g.D.Disk.faults l.disk;
  counted : g.D.Disk.faults l.disk ≡ g.D.Disk.faults l.fn.disk;
}

abbrev pub decreases-loop-done : goal.decreases-loop-done
decreases-loop-done g l = l.elements - l.done
