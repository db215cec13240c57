use Rattle.std.proofs.Common.{◌≡◌, ◌-◌, ◌≤◌}
use Rattle.std.specs.Option.{ForSome}
use Rattle.tce_outside.specs.Files.{others}
use Rattle.tce_array.specs.declared.form.Form.TheVariants.{One}
use Rattle.tce_tools.specs.declared.storage.Storage.TheVariants.{Array}
use Rattle.tce_tools.specs.Flat.{contents}
use Rattle.tce_tools.specs.Storage.{bare_bytes, holding_by}
use Rattle.tce_sym.specs.Storage.{full_cell}
use Rattle.tce_sym.specs.Lines.{AreHeld}
use Rattle.tce_sym.proofs.Pieces.{first_words}
use Rattle.tce_sym.proofs.expansion.expand_elements.Given as goal

abbrev pub invariant-loop-done : goal.invariant-loop-done
invariant-loop-done g l = record {
  done : l.done ≤ l.padded;
  files : g.D.Disk.files l.disk ≡ holding_by l.array (λ fs. bare_bytes (Array One) l.shape (first_words l.shape (full_cell l.shape.extents l.s (contents fs l.packed)) l.done)) (g.D.Disk.files l.fn.disk);
  lines : ForSome (g.D.Disk.files l.fn.disk) (λ fs. AreHeld l.source.triangles.now.slots.grid.layout l.source.triangles.now.slots.grid (contents fs l.packed) l.lines);
  others : others l.array (g.D.Disk.files l.disk) ≡ others l.array (g.D.Disk.files l.fn.disk);
  later : g.D.Disk.faults l.fn.disk ≤ g.D.Disk.faults l.disk;
  counted : g.D.Disk.faults l.disk ≡ g.D.Disk.faults l.fn.disk;
}

abbrev pub decreases-loop-done : goal.decreases-loop-done
decreases-loop-done g l = l.padded - l.done
