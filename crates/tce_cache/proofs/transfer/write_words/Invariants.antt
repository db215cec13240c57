use Rattle.std.proofs.Common.{◌≡◌, ◌-◌, ◌≤◌}
use Rattle.std.specs.Option.{ForSome}
use Rattle.tce_outside.specs.Files.{others, bytes_before}
use Rattle.tce_cache.specs.Transfer.{IsWritten}
use Rattle.tce_cache.proofs.transfer.write_words.Given as goal

abbrev pub invariant-loop-done : goal.invariant-loop-done
invariant-loop-done g l = record {
  done : l.done ≤ l.span.n;
  others : others l.array.file.bytes (g.D.Disk.files l.disk) ≡ others l.array.file.bytes (g.D.Disk.files l.fn.disk);
  begins : bytes_before l.array.file.bytes 8 (g.D.Disk.files l.disk) ≡ bytes_before l.array.file.bytes 8 (g.D.Disk.files l.fn.disk);
  counted : g.D.Disk.faults l.disk ≡ g.D.Disk.faults l.fn.disk;
  written : ForSome (g.D.Disk.files l.fn.disk) (λ fs. ForSome (g.D.Disk.files l.disk) (λ gs. IsWritten l.array fs gs l.span.from l.words l.span.at l.done));
}

abbrev pub decreases-loop-done : goal.decreases-loop-done
decreases-loop-done g l = l.span.n - l.done
