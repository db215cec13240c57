use Rattle.std.proofs.Common.{◌≡◌, map, take}
use Rattle.tce_spec.specs.Statements.{range_statement}
use Rattle.tce_spec.specs.Lines.{with_lines}
use Rattle.tce_spec.proofs.range_lines.print_ranges.Given as goal

abbrev pub invariant-loop-range : goal.invariant-loop-range
invariant-loop-range l = l.printer ≡ with_lines l.fn.printer (map range_statement (take l.range l.space.ranges))
