use Rattle.tce_grammar.proofs.CanonicalLines.{joined_are_lines}
use Rattle.tce_grammar.proofs.laws.joined_lines_are_the_lines.Goals as goal

pub returns : goal.returns
returns c = joined_are_lines
