use Rattle.std.proofs.Common.{◌≡◌, ◌+◌, length}
use Rattle.tce_spec.specs.Lines.{with_lines}
use Rattle.tce_einsum.specs.Entries.{numbered}
use Rattle.tce_einsum.specs.Produced as produced
use Rattle.tce_einsum.specs.ProducedCode.{tileds}
use Rattle.tce_einsum.proofs.lines.print_ranges.Given as goal

abbrev pub invariant-loop-rest : goal.invariant-loop-rest
invariant-loop-rest l = record {
  lines : with_lines l.printer (numbered produced.range_statement l.number (tileds l.rest))
      ≡ with_lines l.fn.printer (numbered produced.range_statement 0 (tileds l.ranges));
  count : l.number + length l.rest ≡ length l.ranges;
}

abbrev pub decreases-loop-rest : goal.decreases-loop-rest
decreases-loop-rest l = length l.rest
