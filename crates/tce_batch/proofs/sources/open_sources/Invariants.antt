use Rattle.std.proofs.Common.{◌≡◌}
use Rattle.std.specs.Option.{ForSome}
use Rattle.tce_batch.specs.Refusals.{SourcesBelow}
use Rattle.tce_batch.proofs.sources.open_sources.Given as goal

abbrev pub invariant-loop-number : goal.invariant-loop-number
invariant-loop-number g l = record {
  same : g.D.Disk.files l.disk ≡ g.D.Disk.files l.fn.disk;
  counted : g.D.Disk.faults l.disk ≡ g.D.Disk.faults l.fn.disk;
  opened : ForSome (g.D.Disk.files l.fn.disk) (λ files. SourcesBelow files l.batch l.number);
}
