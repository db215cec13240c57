use Rattle.std.proofs.Common.{refl, ap, ◌∙◌, length, ◌∷◌, []}
use Rattle.std.proofs.lemmas.List.{length-append}
use Rattle.tce_tree.specs.ContractionTree.{leaf}
use Rattle.tce_tree.specs.WellFormed.{among}
use Rattle.tce_einsum.specs.declared.entries.Node.TheVariants.{Operand}
use Rattle.tce_einsum.proofs.Nodes.{operand_made, entry_added}
use Rattle.std.proofs.lemmas.Result.{IfOk-from_err}
use Rattle.tce_einsum.proofs.entries.Entries.push_operand.Goals as goal

pub returns : goal.returns
returns c =
    let made = operand_made c.args.self.now.nodes.items c.push_node.new.nodes.items (record { node = c.in_ok-node.node; free = c.of_list-free.result })
    (Operand c.args.number c.args.labels) c.args.number c.args.labels.items refl tt c.in_ok-node.ensures.nodes c.in_ok-node.ensures.place
    (λ i. c.of_list-free.ensures i ∙ ap (λ labels. among labels i) c.as_slice.ensures.value) in
    let added = entry_added c.args.self.now.nodes.items c.push_node.new.nodes.items c.args.self.now.entries.items c.push.new.self.items
    (record { node = c.in_ok-node.node; free = c.of_list-free.result }) (leaf c.args.number c.args.labels.items) c.requires.entries.all made.keeps made.is made.tree_is c.in_ok-push.ensures.items in
    record { leaf = added.0; entries = record { all = added.1; ordered = made.keeps.ordered c.requires.entries.ordered }; longer = ap length c.in_ok-push.ensures.items ∙ length-append c.args.self.now.entries.items (record { node = c.in_ok-node.node; free = c.of_list-free.result } ∷ []) }

pub returns-in_err-node-clause-leaf : goal.returns-in_err-node-clause-leaf
returns-in_err-node-clause-leaf c = IfOk-from_err c.from_residual.result _ c.from_residual.ensures.0

pub returns-in_err-node-clause-entries : goal.returns-in_err-node-clause-entries
returns-in_err-node-clause-entries c = IfOk-from_err c.from_residual.result _ c.from_residual.ensures.0

pub returns-in_err-node-clause-longer : goal.returns-in_err-node-clause-longer
returns-in_err-node-clause-longer c = IfOk-from_err c.from_residual.result _ c.from_residual.ensures.0

pub returns-in_err-push-clause-leaf : goal.returns-in_err-push-clause-leaf
returns-in_err-push-clause-leaf c = IfOk-from_err c.from_residual-in_err-push.result _ c.from_residual-in_err-push.ensures.0

pub returns-in_err-push-clause-entries : goal.returns-in_err-push-clause-entries
returns-in_err-push-clause-entries c = IfOk-from_err c.from_residual-in_err-push.result _ c.from_residual-in_err-push.ensures.0

pub returns-in_err-push-clause-longer : goal.returns-in_err-push-clause-longer
returns-in_err-push-clause-longer c = IfOk-from_err c.from_residual-in_err-push.result _ c.from_residual-in_err-push.ensures.0
