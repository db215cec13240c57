use Rattle.std.proofs.Common.{◌≡◌, ◌≤◌, List, ℕ, Option, Some}
use Rattle.std.specs.Option.{ForSome}
use Rattle.tce_outside.specs.Files.{Files, file, others, bytes_before}
use Rattle.tce_array.specs.Forms.{head_len}
use Rattle.tce_tools.specs.declared.storage.Storage.TheVariants.{Array}
use Rattle.tce_tools.specs.Storage.{bare_bytes, holding_by, HasStored}
use Rattle.tce_tools.specs.Bands.{AreTiled, KeepsOutside}
use Rattle.tce_tools.proofs.PieceWrites.{after_pieces}
use Rattle.tce_tools.proofs.banding.write_pieces.Given as goal

abbrev pub invariant-loop-piece : goal.invariant-loop-piece
invariant-loop-piece g l = record {
  written : (before : Option Files) (old new : Files → List ℕ → ℕ)
      → g.D.Disk.files l.fn.disk ≡ holding_by l.file.name.now (λ fs. bare_bytes (Array l.form) l.file.shape.now (old fs)) before
      → ((fs : Files) → before ≡ Some fs → AreTiled l.file.shape.now l.band (new fs) l.tiled)
      → ((fs : Files) → before ≡ Some fs → KeepsOutside l.file.shape.now l.band (old fs) (new fs))
      → g.D.Disk.files l.disk ≡ holding_by l.file.name.now (λ fs. bare_bytes (Array l.form) l.file.shape.now (after_pieces l.file.shape.now l.band (old fs) (new fs) l.piece)) before;
  ahead : bytes_before l.file.name.now (head_len l.form l.file.shape.now) (g.D.Disk.files l.disk) ≡ bytes_before l.file.name.now (head_len l.form l.file.shape.now) (g.D.Disk.files l.fn.disk);
  there : ForSome (g.D.Disk.files l.disk) (λ fs. HasStored (Array l.form) l.file.shape.now (file fs l.file.name.now));
  others : others l.file.name.now (g.D.Disk.files l.disk) ≡ others l.file.name.now (g.D.Disk.files l.fn.disk);
  later : g.D.Disk.faults l.fn.disk ≤ g.D.Disk.faults l.disk;
  counted : g.D.Disk.faults l.disk ≡ g.D.Disk.faults l.fn.disk;
}
