use Rattle.std.proofs.Common.{◌<◌, ◌&&◌, not, length, refl, ap, ◌∙◌, arith}
use Rattle.std.proofs.lemmas.Bool.Decides.{nat_tests}
use Rattle.tce_space.specs.IndexSet.{has}
use Rattle.tce_tree.specs.WellFormed.{among}
use Rattle.tce_einsum.specs.declared.entries.Node.TheVariants.{Sum}
use Rattle.tce_einsum.proofs.Nodes.{summed_made}
use Rattle.std.proofs.lemmas.Result.{IfOk-from_err}
use Rattle.tce_einsum.proofs.entries.summed.Goals as goal

pub returns : goal.returns
returns c =
    let some : 0 < length c.args.labels.items = grind (arith, nat_tests, c.is_empty.ensures, c.if-is_empty.false) in
    let made = summed_made c.args.nodes.now.items c.push_node.new.nodes.items c.args.made (record { node = c.in_ok-node.node; free = c.minus-free.result })
    (Sum c.args.labels c.args.made.node) c.args.labels.items c.requires.made some refl c.requires.made.inside c.in_ok-node.ensures.nodes c.in_ok-node.ensures.place
    (λ i. c.minus-free.ensures i ∙ ap (λ b. has c.args.made.free.bits i && not b) (c.of_list.ensures i ∙ ap (λ labels. among labels i) c.as_slice.ensures.value)) in
    record { tree = made.tree_is; entry = made.is; kept = made.keeps }

pub returns-in_err-node-clause-tree : goal.returns-in_err-node-clause-tree
returns-in_err-node-clause-tree c = IfOk-from_err c.from_residual.result _ c.from_residual.ensures.0

pub returns-in_err-node-clause-entry : goal.returns-in_err-node-clause-entry
returns-in_err-node-clause-entry c = IfOk-from_err c.from_residual.result _ c.from_residual.ensures.0

pub returns-in_err-node-clause-kept : goal.returns-in_err-node-clause-kept
returns-in_err-node-clause-kept c = IfOk-from_err c.from_residual.result _ c.from_residual.ensures.0
