use Rattle.std.proofs.Common.{◌∙◌}
use Rattle.tce_command.proofs.report.refuse_words.Goals as goal

pub returns-clause-line : goal.returns-clause-line
returns-clause-line g c = λ names. c.put_line.ensures.line names (c.as_str.ensures.value ∙ c.words_line-line.ensures)
