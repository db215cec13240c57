use Rattle.std.proofs.Common.{◌≡◌, ◌-◌, ◌≤◌, ◌<◌}
use Rattle.tce_outside.specs.Files.{others}
use Rattle.tce_array.specs.declared.form.Form.TheVariants.{One}
use Rattle.tce_tools.specs.declared.storage.Storage.TheVariants.{Array}
use Rattle.tce_tools.specs.Storage.{bare_bytes, first_elements, holding_by}
use Rattle.tce_tools.specs.Demo.{drawn, demo_element}
use Rattle.tce_tools.proofs.demo.demo_elements.Given as goal

abbrev pub invariant-loop-done : goal.invariant-loop-done
invariant-loop-done g l = record {
  done : l.done ≤ l.elements;
  number : l.number ≡ drawn l.x l.done;
  small : l.number < 2147483647;
  files : g.D.Disk.files l.disk ≡ holding_by l.array (λ fs. bare_bytes (Array One) l.shape (first_elements l.shape (demo_element l.shape l.x) l.done)) (g.D.Disk.files l.fn.disk);
  others : others l.array (g.D.Disk.files l.disk) ≡ others l.array (g.D.Disk.files l.fn.disk);
  later : g.D.Disk.faults l.fn.disk ≤ g.D.Disk.faults l.disk;
  counted : g.D.Disk.faults l.disk ≡ g.D.Disk.faults l.fn.disk;
}

abbrev pub decreases-loop-done : goal.decreases-loop-done
decreases-loop-done g l = l.elements - l.done
