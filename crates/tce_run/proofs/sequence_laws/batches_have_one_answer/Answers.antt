use Rattle.tce_run.proofs.BatchReasons.{granted_batch, alone_batch, possible_batch}
use Rattle.tce_run.proofs.sequence_laws.batches_have_one_answer.Goals as goal

pub returns : goal.returns
returns c = record { granted = granted_batch; alone = alone_batch; possible = possible_batch }
