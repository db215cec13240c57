use Rattle.std.proofs.Common.{◌≡◌, ◌≤◌, ◌-◌, length, map, drop}
use Rattle.tce_spec.specs.Statements.{groups}
use Rattle.tce_spec.specs.Lines.{with_lines}
use Rattle.tce_einsum.specs.Code as code
use Rattle.tce_einsum.specs.Produced as produced
use Rattle.tce_einsum.proofs.lines.print_indexes.Given as goal

abbrev pub invariant-loop-first : goal.invariant-loop-first
invariant-loop-first l = record {
  within : l.first ≤ length l.numbers;
  left :
      with_lines l.printer (map produced.index_statement (groups (drop l.first (produced.indexes (code.sizes l.sizes)))))
      ≡ with_lines l.fn.printer (produced.index_statements (code.sizes l.sizes));
}

abbrev pub decreases-loop-first : goal.decreases-loop-first
decreases-loop-first l = length l.numbers - l.first
