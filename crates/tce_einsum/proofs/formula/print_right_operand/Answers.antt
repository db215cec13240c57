use Rattle.std.proofs.Common.{[], sym, ◌∙◌}
use Rattle.std.proofs.lemmas.Result.{on_ok_weaker}
use Rattle.tce_einsum.proofs.Tasks.{plain_done, grouped_done}
use Rattle.tce_einsum.proofs.formula.print_right_operand.Goals as goal

pub returns-then-not-is_product-clause-printed : goal.returns-then-not-is_product-clause-printed
returns-then-not-is_product-clause-printed c =
    on_ok_weaker c.push_task.result
    (λ pushed ss.
    (plain_done ss c.args.nodes.now c.args.stack.now.items c.push_task.new.stack.items c.args.printer.now c.args.place c.requires.there c.requires.tasks pushed
    (sym c.if-not-is_product.true ∙ c.is_product.ensures ss)).printed)
    c.push_task.ensures

pub returns-then-not-is_product-clause-tasks : goal.returns-then-not-is_product-clause-tasks
returns-then-not-is_product-clause-tasks c =
    on_ok_weaker c.push_task.result
    (λ pushed.
    (plain_done [] c.args.nodes.now c.args.stack.now.items c.push_task.new.stack.items c.args.printer.now c.args.place c.requires.there c.requires.tasks pushed
    (sym c.if-not-is_product.true ∙ c.is_product.ensures [])).tasks)
    c.push_task.ensures

pub returns-then-not-is_product-clause-less : goal.returns-then-not-is_product-clause-less
returns-then-not-is_product-clause-less c =
    on_ok_weaker c.push_task.result
    (λ pushed.
    (plain_done [] c.args.nodes.now c.args.stack.now.items c.push_task.new.stack.items c.args.printer.now c.args.place c.requires.there c.requires.tasks pushed
    (sym c.if-not-is_product.true ∙ c.is_product.ensures [])).less)
    c.push_task.ensures

pub returns-clause-printed : goal.returns-clause-printed
returns-clause-printed c =
    on_ok_weaker c.print_grouped.result
    (λ e ss.
    (grouped_done ss c.args.nodes.now c.args.stack.now.items c.print_grouped.new.stack.items c.args.printer.now c.print_grouped.new.printer c.args.place c.requires.there c.requires.tasks
    e.0 e.1 (sym c.if-not-is_product.false ∙ c.is_product.ensures ss)).printed)
    c.print_grouped.ensures

pub returns-clause-tasks : goal.returns-clause-tasks
returns-clause-tasks c =
    on_ok_weaker c.print_grouped.result
    (λ e.
    (grouped_done [] c.args.nodes.now c.args.stack.now.items c.print_grouped.new.stack.items c.args.printer.now c.print_grouped.new.printer c.args.place c.requires.there c.requires.tasks
    e.0 e.1 (sym c.if-not-is_product.false ∙ c.is_product.ensures [])).tasks)
    c.print_grouped.ensures

pub returns-clause-less : goal.returns-clause-less
returns-clause-less c =
    on_ok_weaker c.print_grouped.result
    (λ e.
    (grouped_done [] c.args.nodes.now c.args.stack.now.items c.print_grouped.new.stack.items c.args.printer.now c.print_grouped.new.printer c.args.place c.requires.there c.requires.tasks
    e.0 e.1 (sym c.if-not-is_product.false ∙ c.is_product.ensures [])).less)
    c.print_grouped.ensures
