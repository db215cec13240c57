use Rattle.tce_einsum.proofs.Nodes.{product_made}
use Rattle.std.proofs.lemmas.Result.{IfOk-from_err}
use Rattle.tce_einsum.proofs.entries.product.Goals as goal

pub returns : goal.returns
returns c =
    let made = product_made c.args.nodes.now.items c.push_node.new.nodes.items c.args.left c.args.right (record { node = c.in_ok-node.node; free = c.union-free.result })
    c.requires.left c.requires.right c.in_ok-node.ensures.nodes c.in_ok-node.ensures.place c.union-free.ensures in
    record { tree = made.tree_is; entry = made.is; kept = made.keeps }

pub returns-in_err-node-clause-tree : goal.returns-in_err-node-clause-tree
returns-in_err-node-clause-tree c = IfOk-from_err c.from_residual.result _ c.from_residual.ensures.0

pub returns-in_err-node-clause-entry : goal.returns-in_err-node-clause-entry
returns-in_err-node-clause-entry c = IfOk-from_err c.from_residual.result _ c.from_residual.ensures.0

pub returns-in_err-node-clause-kept : goal.returns-in_err-node-clause-kept
returns-in_err-node-clause-kept c = IfOk-from_err c.from_residual.result _ c.from_residual.ensures.0
