use Rattle.std.proofs.Common.{List, refl, sym, ◌∙◌}
use Rattle.tce_grammar.specs.Tokens.{word, symbol}
use Rattle.tce_grammar.specs.Grammar.{bracketed, listed}
use Rattle.tce_grammar.specs.Printed.{with_tokens}
use Rattle.std.specs.Prelude.{codes, ◌∷◌, ◌++◌, []}
use Rattle.std.proofs.lemmas.Result.{on_ok_weaker}
use Rattle.tce_einsum.specs.Text as text
use Rattle.tce_einsum.specs.Code as code
use Rattle.tce_einsum.specs.Produced.{operand_name, label_names}
use Rattle.tce_einsum.specs.declared.entries.Node.TheVariants.{Operand, Sum}
use Rattle.tce_einsum.proofs.Tasks.{operand_done, product_done, sum_done}
use Rattle.tce_einsum.proofs.formula.print_node.Goals as goal

pub returns-in-Operand-clause-printed : goal.returns-in-Operand-clause-printed
returns-in-Operand-clause-printed c =
    let ss : List text.Size = code.sizes c.args.sizes.now in
    on_ok_weaker c.push_operand.result
    (λ e.
    (operand_done ss c.args.nodes.now c.args.stack.now.items c.args.printer.now c.push_operand.new.printer c.args.place (Operand c.in-Operand.operand c.in-Operand.labels)
    c.index-nodes-place.result c.in-Operand.operand c.in-Operand.labels.items c.requires.there (sym c.index-nodes-place.is ∙ c.in-Operand.is) (λ ts. refl) c.requires.tasks
    (e ∙ (λ i. with_tokens c.args.printer.now (bracketed (operand_name c.in-Operand.operand) (label_names ss (c.as_slice.ensures.value i)))))).printed)
    c.push_operand.ensures

pub returns-in-Operand-clause-tasks : goal.returns-in-Operand-clause-tasks
returns-in-Operand-clause-tasks c = on_ok_weaker c.push_operand.result (λ e. c.requires.tasks) c.push_operand.ensures

pub returns-in-Operand-clause-less : goal.returns-in-Operand-clause-less
returns-in-Operand-clause-less c =
    on_ok_weaker c.push_operand.result
    (λ e.
    (operand_done (code.sizes c.args.sizes.now) c.args.nodes.now c.args.stack.now.items c.args.printer.now c.push_operand.new.printer c.args.place (Operand c.in-Operand.operand c.in-Operand.labels)
    c.index-nodes-place.result c.in-Operand.operand c.in-Operand.labels.items c.requires.there (sym c.index-nodes-place.is ∙ c.in-Operand.is) (λ ts. refl) c.requires.tasks
    (e ∙ (λ i. with_tokens c.args.printer.now (bracketed (operand_name c.in-Operand.operand) (label_names (code.sizes c.args.sizes.now) (c.as_slice.ensures.value i)))))).less)
    c.push_operand.ensures

pub returns-in-Product-clause-printed : goal.returns-in-Product-clause-printed
returns-in-Product-clause-printed c =
    on_ok_weaker c.push_three.result
    (λ e.
    (product_done (code.sizes c.args.sizes.now) c.args.nodes.now c.args.stack.now.items c.push_three.new.stack.items c.args.printer.now c.args.place c.in-Product.left c.in-Product.right
    c.index-nodes-place.result c.requires.ordered c.requires.there (sym c.index-nodes-place.is ∙ c.in-Product.is) c.requires.tasks e).printed)
    c.push_three.ensures

pub returns-in-Product-clause-tasks : goal.returns-in-Product-clause-tasks
returns-in-Product-clause-tasks c =
    on_ok_weaker c.push_three.result
    (λ e.
    (product_done (code.sizes c.args.sizes.now) c.args.nodes.now c.args.stack.now.items c.push_three.new.stack.items c.args.printer.now c.args.place c.in-Product.left c.in-Product.right
    c.index-nodes-place.result c.requires.ordered c.requires.there (sym c.index-nodes-place.is ∙ c.in-Product.is) c.requires.tasks e).tasks)
    c.push_three.ensures

pub returns-in-Product-clause-less : goal.returns-in-Product-clause-less
returns-in-Product-clause-less c =
    on_ok_weaker c.push_three.result
    (λ e.
    (product_done (code.sizes c.args.sizes.now) c.args.nodes.now c.args.stack.now.items c.push_three.new.stack.items c.args.printer.now c.args.place c.in-Product.left c.in-Product.right
    c.index-nodes-place.result c.requires.ordered c.requires.there (sym c.index-nodes-place.is ∙ c.in-Product.is) c.requires.tasks e).less)
    c.push_three.ensures

pub returns-in-Sum-clause-printed : goal.returns-in-Sum-clause-printed
returns-in-Sum-clause-printed c =
    on_ok_weaker c.print_sum.result
    (λ e.
    (sum_done (code.sizes c.args.sizes.now) c.args.nodes.now c.args.stack.now.items c.print_sum.new.stack.items c.args.printer.now c.print_sum.new.printer c.args.place c.in-Sum.operand
    (Sum c.in-Sum.labels c.in-Sum.operand) c.index-nodes-place.result c.in-Sum.labels.items c.requires.ordered c.requires.there (sym c.index-nodes-place.is ∙ c.in-Sum.is)
    (λ before. before) (λ ts. refl) c.requires.tasks
    (e.0
    ∙ (λ i. with_tokens c.args.printer.now
    (word (codes "sum") ∷ symbol 123 ∷ (listed (label_names (code.sizes c.args.sizes.now) (c.as_slice-in-Sum.ensures.value i)) ++ symbol 125 ∷ symbol 40 ∷ []))))
    e.1).printed)
    c.print_sum.ensures

pub returns-in-Sum-clause-tasks : goal.returns-in-Sum-clause-tasks
returns-in-Sum-clause-tasks c =
    on_ok_weaker c.print_sum.result
    (λ e.
    (sum_done (code.sizes c.args.sizes.now) c.args.nodes.now c.args.stack.now.items c.print_sum.new.stack.items c.args.printer.now c.print_sum.new.printer c.args.place c.in-Sum.operand
    (Sum c.in-Sum.labels c.in-Sum.operand) c.index-nodes-place.result c.in-Sum.labels.items c.requires.ordered c.requires.there (sym c.index-nodes-place.is ∙ c.in-Sum.is)
    (λ before. before) (λ ts. refl) c.requires.tasks
    (e.0
    ∙ (λ i. with_tokens c.args.printer.now
    (word (codes "sum") ∷ symbol 123 ∷ (listed (label_names (code.sizes c.args.sizes.now) (c.as_slice-in-Sum.ensures.value i)) ++ symbol 125 ∷ symbol 40 ∷ []))))
    e.1).tasks)
    c.print_sum.ensures

pub returns-in-Sum-clause-less : goal.returns-in-Sum-clause-less
returns-in-Sum-clause-less c =
    on_ok_weaker c.print_sum.result
    (λ e.
    (sum_done (code.sizes c.args.sizes.now) c.args.nodes.now c.args.stack.now.items c.print_sum.new.stack.items c.args.printer.now c.print_sum.new.printer c.args.place c.in-Sum.operand
    (Sum c.in-Sum.labels c.in-Sum.operand) c.index-nodes-place.result c.in-Sum.labels.items c.requires.ordered c.requires.there (sym c.index-nodes-place.is ∙ c.in-Sum.is)
    (λ before. before) (λ ts. refl) c.requires.tasks
    (e.0
    ∙ (λ i. with_tokens c.args.printer.now
    (word (codes "sum") ∷ symbol 123 ∷ (listed (label_names (code.sizes c.args.sizes.now) (c.as_slice-in-Sum.ensures.value i)) ++ symbol 125 ∷ symbol 40 ∷ []))))
    e.1).less)
    c.print_sum.ensures
