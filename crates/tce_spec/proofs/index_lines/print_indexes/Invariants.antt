use Rattle.std.proofs.Common.{◌≡◌, ◌≤◌, ◌-◌, length, map, drop}
use Rattle.tce_spec.specs.Statements.{groups, index_statement}
use Rattle.tce_spec.specs.Lines.{with_lines}
use Rattle.tce_spec.proofs.index_lines.print_indexes.Given as goal

abbrev pub invariant-loop-first : goal.invariant-loop-first
invariant-loop-first l = record {
  within : l.first ≤ length l.space.indexes;
  left :
      with_lines l.printer (map (index_statement l.space) (groups (drop l.first l.space.indexes)))
      ≡ with_lines l.fn.printer (map (index_statement l.space) (groups l.space.indexes));
}

abbrev pub decreases-loop-first : goal.decreases-loop-first
decreases-loop-first l = l.count - l.first
