use Rattle.tce_batch.proofs.Computed.{batch_computed, batch_is, batch_only}
use Rattle.tce_batch.proofs.laws.every_text_has_one_batch.Goals as goal

pub returns : goal.returns
returns c = λ text. (batch_computed text, batch_is text, batch_only text)
