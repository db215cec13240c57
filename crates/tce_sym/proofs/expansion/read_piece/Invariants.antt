use Rattle.std.proofs.Common.{◌≡◌, ◌-◌, ◌≤◌, length}
use Rattle.std.specs.Option.{ForSome}
use Rattle.tce_tools.specs.Flat.{contents}
use Rattle.tce_sym.specs.Storage.{full_cell}
use Rattle.tce_sym.specs.Lines.{AreHeld}
use Rattle.tce_sym.proofs.Pieces.{AreFilled}
use Rattle.tce_sym.proofs.expansion.read_piece.Given as goal

abbrev pub invariant-loop-filled : goal.invariant-loop-filled
invariant-loop-filled g l = record {
  filled : l.filled ≤ length l.fn.words;
  read : ForSome (g.D.Disk.files l.fn.disk) (λ fs. AreFilled l.source.shape.now (full_cell l.source.shape.now.extents l.source.s.now (contents fs l.source.packed.now)) l.start l.filled l.words);
  lines : ForSome (g.D.Disk.files l.fn.disk) (λ fs. AreHeld l.source.triangles.now.slots.grid.layout l.source.triangles.now.slots.grid (contents fs l.source.packed.now) l.lines);
  files : g.D.Disk.files l.disk ≡ g.D.Disk.files l.fn.disk;
  later : g.D.Disk.faults l.fn.disk ≤ g.D.Disk.faults l.disk;
  counted : g.D.Disk.faults l.disk ≡ g.D.Disk.faults l.fn.disk;
}

abbrev pub decreases-loop-filled : goal.decreases-loop-filled
decreases-loop-filled g l = length l.fn.words - l.filled
