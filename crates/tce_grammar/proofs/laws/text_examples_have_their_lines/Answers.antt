use Rattle.tce_grammar.proofs.ExampleReadings.{text_examples_cut}
use Rattle.tce_grammar.proofs.laws.text_examples_have_their_lines.Goals as goal

pub returns : goal.returns
returns c = text_examples_cut
