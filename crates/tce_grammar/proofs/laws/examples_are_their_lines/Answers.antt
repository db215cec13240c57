use Rattle.std.proofs.Common.{◌≡◌}
use Rattle.tce_grammar.specs.Grammar.{IsLine}
use Rattle.tce_grammar.specs.Reading.{line_of}
use Rattle.tce_grammar.specs.Examples.{Example, examples}
use Rattle.tce_grammar.proofs.OneReading.{line_read}
use Rattle.tce_grammar.proofs.ExampleReadings.{all_weaker, examples_read}
use Rattle.tce_grammar.proofs.laws.examples_are_their_lines.Goals as goal

pub returns : goal.returns
returns c =
    all_weaker (λ (e : Example). line_of e.text ≡ e.of_line) (λ (e : Example). IsLine e.text e.of_line) (λ e same. line_read e.text e.of_line same)
    examples examples_read
