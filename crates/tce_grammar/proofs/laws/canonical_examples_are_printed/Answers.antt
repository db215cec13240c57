use Rattle.std.proofs.Common.{◌≡◌}
use Rattle.tce_grammar.specs.Grammar.{IsLine, says}
use Rattle.tce_grammar.specs.Reading.{line_of}
use Rattle.tce_grammar.specs.Canonical.{canonical_line}
use Rattle.tce_grammar.specs.Examples.{CanonicalExample, canonical_examples}
use Rattle.tce_grammar.proofs.OneReading.{line_read}
use Rattle.tce_grammar.proofs.ExampleReadings.{all_weaker, canonical_examples_read}
use Rattle.tce_grammar.proofs.laws.canonical_examples_are_printed.Goals as goal

pub returns : goal.returns
returns c =
    all_weaker (λ (e : CanonicalExample). (line_of e.text ≡ says e.of_line) × (canonical_line e.of_line ≡ e.canonical))
    (λ (e : CanonicalExample). IsLine e.text (says e.of_line) × (canonical_line e.of_line ≡ e.canonical))
    (λ e both. (line_read e.text (says e.of_line) both.0, both.1)) canonical_examples canonical_examples_read
