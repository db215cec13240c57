use Rattle.std.proofs.Common.{◌≡◌, ℕ, ◌<◌, ◌≤◌, ◌-◌, slice_index}
use Rattle.std.specs.Option.{ForSome}
use Rattle.tce_tools.specs.Flat.{contents}
use Rattle.tce_sym.specs.Storage.{stored_word}
use Rattle.tce_sym.proofs.whole.read_whole.Given as goal

abbrev pub invariant-loop-done : goal.invariant-loop-done
invariant-loop-done g l = record {
  done : l.done ≤ l.grid.count;
  read : ForSome (g.D.Disk.files l.fn.disk) (λ fs. (k : ℕ) → k < l.done → slice_index l.lines k ≡ stored_word (contents fs l.packed) k);
  files : g.D.Disk.files l.disk ≡ g.D.Disk.files l.fn.disk;
  later : g.D.Disk.faults l.fn.disk ≤ g.D.Disk.faults l.disk;
  counted : g.D.Disk.faults l.disk ≡ g.D.Disk.faults l.fn.disk;
}

abbrev pub decreases-loop-done : goal.decreases-loop-done
decreases-loop-done g l = l.grid.count - l.done
