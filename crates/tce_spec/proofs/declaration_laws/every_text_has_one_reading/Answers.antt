use Rattle.tce_spec.specs.Text.{closing_fault}
use Rattle.tce_spec.proofs.Readings.{lines_of, computed_head, head_is, head_only, closing_is, closing_only}
use Rattle.tce_spec.proofs.declaration_laws.every_text_has_one_reading.Goals as goal

pub returns : goal.returns
returns c = record {
  head = λ text. (computed_head text, head_is text, head_only text);
  closing = λ line text. (closing_fault line (lines_of text), closing_is line text, closing_only line text);
}
