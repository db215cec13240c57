use Rattle.std.proofs.Common.{length, ◌-◌, ◌≡◌, ℕ, ◌<◌, ◌≤◌, slice_index}
use Rattle.std.specs.Option.{ForSome}
use Rattle.tce_tools.specs.Flat.{contents}
use Rattle.tce_sym.specs.Storage.{stored_word}
use Rattle.tce_sym.specs.Lines.{AreLines, walk_place}
use Rattle.tce_sym.proofs.walks.read_lines.Given as goal

abbrev pub invariant-loop-done : goal.invariant-loop-done
invariant-loop-done g l = record {
  done : l.done ≤ length l.words;
  read : ForSome (g.D.Disk.files l.fn.disk) (λ fs. (k : ℕ) → k < l.done → slice_index l.words k ≡ stored_word (contents fs l.packed) (walk_place l.walk k));
  lines : ForSome (g.D.Disk.files l.fn.disk) (λ fs. AreLines l.grid (contents fs l.packed) l.lines);
  files : g.D.Disk.files l.disk ≡ g.D.Disk.files l.fn.disk;
  later : g.D.Disk.faults l.fn.disk ≤ g.D.Disk.faults l.disk;
  counted : g.D.Disk.faults l.disk ≡ g.D.Disk.faults l.fn.disk;
}

abbrev pub decreases-loop-done : goal.decreases-loop-done
decreases-loop-done g l = length l.initial.words - l.done
