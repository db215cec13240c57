use Rattle.std.proofs.Common.{List, ◌∙◌}
use Rattle.std.proofs.lemmas.Result.{on_ok_weaker, IfOk-from_err}
use Rattle.tce_fields.specs.Reading.{texts}
use Rattle.tce_spec.specs.Lines.{with_line, with_lines}
use Rattle.tce_einsum.specs.Text as text
use Rattle.tce_einsum.specs.Code as code
use Rattle.tce_einsum.specs.Entries.{numbered}
use Rattle.tce_einsum.specs.Produced.{range_statement, range_statements, index_statements, operand_statement, result_statement, range_names, result_name}
use Rattle.tce_grammar.specs.Grammar.{declaration}
use Rattle.tce_einsum.specs.ProducedCode.{tileds}
use Rattle.tce_einsum.proofs.ProducedLines.{declared_lines}
use Rattle.tce_einsum.proofs.produced.print_declarations.Goals as goal

pub returns : goal.returns
returns c =
    let x : text.Einsum = code.einsum c.args.whole.now in
    let ss : List text.Size = x.sizes in
    let sizes = c.as_slice-sizes.ensures.value in
    on_ok_weaker c.print_result.result
    (λ printed.
    declared_lines c.args.printer.now c.print_ranges.new.printer c.print_indexes.new.printer c.print_operands.new.printer c.print_result.new.printer
    (range_statements ss) (index_statements ss) (numbered (operand_statement ss) 0 x.operands) (result_statement x)
    (c.in_ok-print_ranges.ensures
    ∙ (λ i. with_lines c.args.printer.now (numbered range_statement 0 (tileds (c.as_slice-2.ensures.value i))))
    ∙ (λ i. with_lines c.args.printer.now (numbered range_statement 0 (c.in_ok-ranges.ensures i)))
    ∙ (λ i. with_lines c.args.printer.now (range_statements (code.sizes (sizes i)))))
    (c.in_ok-print_indexes.ensures ∙ (λ i. with_lines c.print_ranges.new.printer (index_statements (code.sizes (sizes i)))))
    (c.in_ok-print_operands.ensures
    ∙ (λ i. with_lines c.print_indexes.new.printer (numbered (operand_statement (code.sizes (sizes i))) 0 (texts (c.as_slice-3.ensures.value i)))))
    (printed ∙ (λ i. with_line c.print_operands.new.printer (declaration result_name (range_names (code.sizes (sizes i)) x.output)))))
    c.print_result.ensures

pub returns-in_err-ranges : goal.returns-in_err-ranges
returns-in_err-ranges c = IfOk-from_err c.from_residual.result _ c.from_residual.ensures.0

pub returns-in_err-numbers : goal.returns-in_err-numbers
returns-in_err-numbers c = IfOk-from_err c.from_residual-in_err-numbers.result _ c.from_residual-in_err-numbers.ensures.0

pub returns-in_err-print_ranges : goal.returns-in_err-print_ranges
returns-in_err-print_ranges c = IfOk-from_err c.from_residual-in_err-print_ranges.result _ c.from_residual-in_err-print_ranges.ensures.0

pub returns-in_err-print_indexes : goal.returns-in_err-print_indexes
returns-in_err-print_indexes c = IfOk-from_err c.from_residual-in_err-print_indexes.result _ c.from_residual-in_err-print_indexes.ensures.0

pub returns-in_err-print_operands : goal.returns-in_err-print_operands
returns-in_err-print_operands c = IfOk-from_err c.from_residual-in_err-print_operands.result _ c.from_residual-in_err-print_operands.ensures.0
