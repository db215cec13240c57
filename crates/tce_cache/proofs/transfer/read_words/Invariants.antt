use Rattle.std.proofs.Common.{◌≡◌, ◌-◌, ◌≤◌, length}
use Rattle.std.specs.Option.{ForSome}
use Rattle.tce_cache.specs.Transfer.{AreWordsOf, IsSameBut}
use Rattle.tce_cache.proofs.transfer.read_words.Given as goal

abbrev pub invariant-loop-done : goal.invariant-loop-done
invariant-loop-done g l = record {
  done : l.done ≤ l.span.n;
  len : length l.words ≡ length l.fn.words;
  files : g.D.Disk.files l.disk ≡ g.D.Disk.files l.fn.disk;
  counted : g.D.Disk.faults l.disk ≡ g.D.Disk.faults l.fn.disk;
  read : ForSome (g.D.Disk.files l.fn.disk) (λ fs. AreWordsOf l.array fs l.span.from l.words l.span.at l.done);
  others : IsSameBut l.span.at l.span.n l.fn.words l.words;
}

abbrev pub decreases-loop-done : goal.decreases-loop-done
decreases-loop-done g l = l.span.n - l.done
