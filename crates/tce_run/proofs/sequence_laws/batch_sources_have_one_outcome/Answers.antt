use Rattle.tce_run.proofs.BatchOutcomes.{one_batch, one_batch_refusal, not_both_batch}
use Rattle.tce_run.proofs.sequence_laws.batch_sources_have_one_outcome.Goals as goal

pub returns : goal.returns
returns c = record { one = one_batch; one_refusal = one_batch_refusal; not_both = not_both_batch }
