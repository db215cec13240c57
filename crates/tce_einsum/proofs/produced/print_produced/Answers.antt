use Rattle.std.proofs.Common.{List, length, ap, sym, ◌∙◌}
use Rattle.std.proofs.lemmas.List.{length-map}
use Rattle.std.proofs.lemmas.Result.{IfOk-from_err}
use Rattle.tce_spec.specs.Lines.{with_line}
use Rattle.tce_einsum.specs.Text as text
use Rattle.tce_einsum.specs.Path as path
use Rattle.tce_einsum.specs.Code as code
use Rattle.tce_einsum.specs.Entries.{entry_at}
use Rattle.tce_einsum.specs.EntriesCode.{tree_in}
use Rattle.tce_einsum.specs.Numbered.{contraction_of}
use Rattle.tce_einsum.specs.Produced.{range_statements, index_statements, tensor_statements, formula_statement}
use Rattle.tce_einsum.proofs.ProducedLines.{all_printed}
use Rattle.tce_einsum.proofs.produced.print_produced.Goals as goal

pub returns : goal.returns
returns c =
    let x : text.Einsum = code.einsum c.args.input.now.einsum in
    let items : List path.Item = code.items c.args.input.now.items.items in
    c.into_text.ensures
    ∙ all_printed c.new-printer.result c.print_declarations.new.printer c.print_formula.new.printer
    (range_statements x.sizes) (index_statements x.sizes) (tensor_statements x) (formula_statement x (contraction_of x items))
    c.new-printer.ensures c.in_ok-print_declarations.ensures
    (c.in_ok-print_formula.ensures ∙ (λ i. with_line c.print_declarations.new.printer (formula_statement x (entry_at (c.in_ok-left.ensures.tree i) 0))))

pub print_formula-requires-clause-one : goal.print_formula-requires-clause-one
print_formula-requires-clause-one c = sym (length-map c.in_ok-left.left.entries.items (tree_in c.in_ok-left.left.nodes.items)) ∙ ap length c.in_ok-left.ensures.tree

pub print_formula-requires-clause-entries : goal.print_formula-requires-clause-entries
print_formula-requires-clause-entries c = c.in_ok-left.ensures.entries

pub returns-in_err-left : goal.returns-in_err-left
returns-in_err-left c = IfOk-from_err c.from_residual.result _ c.from_residual.ensures.0

pub returns-in_err-print_declarations : goal.returns-in_err-print_declarations
returns-in_err-print_declarations c = IfOk-from_err c.from_residual-in_err-print_declarations.result _ c.from_residual-in_err-print_declarations.ensures.0

pub returns-in_err-print_formula : goal.returns-in_err-print_formula
returns-in_err-print_formula c = IfOk-from_err c.from_residual-in_err-print_formula.result _ c.from_residual-in_err-print_formula.ensures.0
