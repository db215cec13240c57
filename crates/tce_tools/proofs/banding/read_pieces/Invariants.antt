use Rattle.std.proofs.Common.{◌≡◌, ◌*◌, ◌<◌, ◌≤◌, List, ℕ, slice_index}
use Rattle.std.specs.Option.{ForSome}
use Rattle.tce_space.specs.Box.{IsInside}
use Rattle.tce_space.specs.Tiling.{word_number}
use Rattle.tce_tools.specs.declared.storage.Storage.TheVariants.{Array}
use Rattle.tce_tools.specs.Flat.{contents}
use Rattle.tce_tools.specs.Storage.{element_in}
use Rattle.tce_tools.specs.Bands.{IsAt}
use Rattle.tce_tools.proofs.banding.read_pieces.Given as goal

abbrev pub invariant-loop-piece : goal.invariant-loop-piece
invariant-loop-piece g l = record {
  read : ForSome (g.D.Disk.files l.fn.disk) (λ fs. (xs : List ℕ) → IsInside l.file.shape.now.extents xs → (index : ℕ) → IsAt l.band (word_number l.file.shape.now xs) index → index < l.piece * l.band.piece_len → slice_index l.tiled index ≡ element_in (Array l.form) l.file.shape.now (contents fs l.file.name.now) xs);
  files : g.D.Disk.files l.disk ≡ g.D.Disk.files l.fn.disk;
  later : g.D.Disk.faults l.fn.disk ≤ g.D.Disk.faults l.disk;
  counted : g.D.Disk.faults l.disk ≡ g.D.Disk.faults l.fn.disk;
}
