use Rattle.std.proofs.Common.{map, ◌∙◌}
use Rattle.tce_tree.specs.Expr.{tree_of}
use Rattle.tce_spec.specs.Statements.{groups, range_statement, index_statement, tensor_statement, formula_statement}
use Rattle.tce_spec.proofs.Printing.{all_lines}
use Rattle.tce_spec.proofs.print.print_lines.Goals as goal

pub returns : goal.returns
returns c =
    let d = c.args.declarations.now in
    c.into_text.ensures
    ∙ all_lines c.new-printer.result c.print_ranges.new.printer c.print_indexes.new.printer c.print_tensors.new.printer c.print_formula.new.printer (map range_statement d.space.ranges)
    (map (index_statement d.space) (groups d.space.indexes)) (map (tensor_statement d.space) d.tensors)
    (formula_statement d c.args.computed.now.tensor c.args.computed.now.indexes.items (tree_of c.args.expr.now)) c.new-printer.ensures
    (rw c.space.ensures.space at c.in_ok-print_ranges.ensures) (rw c.space-2.ensures.space at c.in_ok-print_indexes.ensures) c.in_ok-print_tensors.ensures c.in_ok-print_formula.ensures
