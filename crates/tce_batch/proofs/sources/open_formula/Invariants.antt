use Rattle.std.proofs.Common.{◌≡◌}
use Rattle.std.specs.Option.{ForSome}
use Rattle.tce_batch.specs.BatchCode.{results_before}
use Rattle.tce_batch.specs.Refusals.{HasSources}
use Rattle.tce_batch.proofs.sources.open_formula.Given as goal

abbrev pub invariant-loop-t : goal.invariant-loop-t
invariant-loop-t g l = record {
  same : g.D.Disk.files l.disk ≡ g.D.Disk.files l.fn.disk;
  counted : g.D.Disk.faults l.disk ≡ g.D.Disk.faults l.fn.disk;
  opened : ForSome (g.D.Disk.files l.fn.disk) (λ files. HasSources files l.spec (results_before l.batch l.number) l.t-index);
}
