use Rattle.tce_spec.proofs.Reading.{computed, computed_is, computed_only}
use Rattle.tce_spec.proofs.laws.every_text_has_one_outcome.Goals as goal

pub returns : goal.returns
returns c = λ text. (computed text, computed_is text, computed_only text)
