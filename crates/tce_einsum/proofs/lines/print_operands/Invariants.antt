use Rattle.std.proofs.Common.{◌≡◌, ◌+◌, length}
use Rattle.tce_fields.specs.Reading.{texts}
use Rattle.tce_spec.specs.Lines.{with_lines}
use Rattle.tce_einsum.specs.Code as code
use Rattle.tce_einsum.specs.Entries.{numbered}
use Rattle.tce_einsum.specs.Produced as produced
use Rattle.tce_einsum.proofs.lines.print_operands.Given as goal

abbrev pub invariant-loop-rest : goal.invariant-loop-rest
invariant-loop-rest l = record {
  lines : with_lines l.printer (numbered (produced.operand_statement (code.sizes l.sizes)) l.operand (texts l.rest))
      ≡ with_lines l.fn.printer (numbered (produced.operand_statement (code.sizes l.sizes)) 0 (texts l.operands));
  count : l.operand + length l.rest ≡ length l.operands;
}

abbrev pub decreases-loop-rest : goal.decreases-loop-rest
decreases-loop-rest l = length l.rest
