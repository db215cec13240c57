use Rattle.std.proofs.Common.{subst}
use Rattle.tce_batch.specs.BatchCode.{IsBatch}
use Rattle.tce_batch.proofs.Lines.{is_batch}
use Rattle.tce_batch.proofs.batch.Batch.len.Goals as goal

pub returns-clause-rules : goal.returns-clause-rules
returns-clause-rules c = subst IsBatch c.self.view_is (is_batch c.self.inside.declarations c.self.inside.contractions.items c.self.invariant)
