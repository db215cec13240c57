use Rattle.std.proofs.Common.{◌≡◌, ◌+◌, ◌<◌, ◌^◌, length, map}
use Rattle.tce_grammar.specs.Lines.{lines}
use Rattle.tce_grammar.specs.Reading.{line_of}
use Rattle.tce_spec.specs.Text.{closing_fault}
use Rattle.tce_spec.proofs.text.check_lines.Given as goal

abbrev pub invariant-loop-first : goal.invariant-loop-first
invariant-loop-first l = record {
  same : closing_fault l.first_number (map line_of (lines l.text)) ≡ closing_fault l.number (map line_of (lines l.rest));
  few : l.number + length l.rest < 2 ^ 64;
}

abbrev pub decreases-loop-first : goal.decreases-loop-first
decreases-loop-first l = length l.rest
