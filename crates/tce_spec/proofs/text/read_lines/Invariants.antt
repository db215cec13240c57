use Rattle.std.proofs.Common.{◌≡◌, ◌+◌, ◌≤◌, ◌^◌, [], ◌∷◌, length, map, drop}
use Rattle.tce_grammar.specs.Lines.{lines}
use Rattle.tce_grammar.specs.Reading.{line_of}
use Rattle.tce_spec.specs.Declarations.{nothing_declared}
use Rattle.tce_spec.specs.Text.{head_of}
use Rattle.tce_spec.proofs.text.read_lines.Given as goal

abbrev pub invariant-loop-first : goal.invariant-loop-first
invariant-loop-first l = record {
  same : head_of 1 nothing_declared (map line_of (lines l.text)) ≡ head_of l.line l.declarations (map line_of (lines l.rest));
  place : drop l.line ([] ∷ lines l.text) ≡ lines l.rest;
  few : l.line + length l.rest ≤ 2 ^ 16 + 1;
}

abbrev pub decreases-loop-first : goal.decreases-loop-first
decreases-loop-first l = length l.rest
