use Rattle.tce_grammar.specs.Reading.{line_of}
use Rattle.tce_grammar.proofs.OneReading.{line_is, line_only}
use Rattle.tce_grammar.proofs.laws.every_line_has_one_reading.Goals as goal

pub returns : goal.returns
returns c = λ text. (line_of text, line_is text, line_only text)
