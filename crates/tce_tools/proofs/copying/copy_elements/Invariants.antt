use Rattle.std.proofs.Common.{◌≡◌, ◌-◌, ◌≤◌}
use Rattle.tce_outside.specs.Files.{others}
use Rattle.tce_tools.specs.Flat.{contents}
use Rattle.tce_tools.specs.Storage.{bare_bytes, first_elements, later_elements, element_in, holding_by}
use Rattle.tce_tools.proofs.copying.copy_elements.Given as goal

abbrev pub invariant-loop-done : goal.invariant-loop-done
invariant-loop-done g l = record {
  first : l.first.len ≤ l.done;
  done : l.done ≤ l.elements;
  files : g.D.Disk.files l.disk ≡ holding_by l.files.target.now (λ fs. bare_bytes l.fn.files.to l.shape (first_elements l.shape (later_elements l.shape (element_in l.fn.files.from l.shape (contents fs l.files.source.now)) l.first.len) l.done)) (g.D.Disk.files l.fn.disk);
  others : others l.files.target.now (g.D.Disk.files l.disk) ≡ others l.files.target.now (g.D.Disk.files l.fn.disk);
  later : g.D.Disk.faults l.fn.disk ≤ g.D.Disk.faults l.disk;
  counted : g.D.Disk.faults l.disk ≡ g.D.Disk.faults l.fn.disk;
}

abbrev pub decreases-loop-done : goal.decreases-loop-done
decreases-loop-done g l = l.elements - l.done
