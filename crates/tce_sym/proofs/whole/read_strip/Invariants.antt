use Rattle.std.proofs.Common.{◌≡◌, ℕ, ◌+◌, ◌*◌, ◌<◌, ◌≤◌, slice_index}
use Rattle.std.specs.Option.{ForSome}
use Rattle.tce_tools.specs.Flat.{contents}
use Rattle.tce_sym.specs.Storage.{stored_word}
use Rattle.tce_sym.specs.Lines.{ArePairs}
use Rattle.tce_sym.proofs.whole.read_strip.Given as goal

abbrev pub invariant-loop-outer : goal.invariant-loop-outer
invariant-loop-outer g l = record {
  before : ForSome (g.D.Disk.files l.fn.disk) (λ fs. ArePairs l.grid l.from (contents fs l.packed) l.fn.lines → ArePairs l.grid l.from (contents fs l.packed) l.lines);
  read : ForSome (g.D.Disk.files l.fn.disk) (λ fs. (other k : ℕ) → other < l.outer → k < l.len → slice_index l.lines ((l.from + k) * l.grid.pitch + other) ≡ stored_word (contents fs l.packed) (other * l.grid.pairs + (l.from + k)));
  files : g.D.Disk.files l.disk ≡ g.D.Disk.files l.fn.disk;
  later : g.D.Disk.faults l.fn.disk ≤ g.D.Disk.faults l.disk;
  counted : g.D.Disk.faults l.disk ≡ g.D.Disk.faults l.fn.disk;
}
