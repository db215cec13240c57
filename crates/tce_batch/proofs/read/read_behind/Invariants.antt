use Rattle.std.proofs.Common.{◌≡◌, ◌+◌, ◌<◌, ◌^◌, ◌++◌, length, map}
use Rattle.std.specs.Prelude.{All}
use Rattle.tce_grammar.specs.Lines.{lines}
use Rattle.tce_grammar.specs.Reading.{line_of}
use Rattle.tce_spec.specs.SpecCode.{IsKept}
use Rattle.tce_batch.specs.Reading.{of_lines, as_found}
use Rattle.tce_batch.proofs.read.read_behind.Given as goal

abbrev pub invariant-loop-next : goal.invariant-loop-next
invariant-loop-next l = record {
  read : as_found l.declarations l.fn.contractions.items ++ of_lines l.first_number l.declarations (map line_of (lines l.text))
      ≡ as_found l.declarations l.contractions.items ++ of_lines l.number l.declarations (map line_of (lines l.rest));
  kept : All (IsKept l.declarations) l.contractions.items;
  few : l.number + length l.rest < 2 ^ 64;
}

abbrev pub decreases-loop-next : goal.decreases-loop-next
decreases-loop-next l = length l.rest
