use Rattle.std.proofs.Common.{◌≡◌, ◌≤◌, ◌+◌, ◌-◌, IfOk, sym, ap, ◌∙◌, subst, arith}
use Rattle.tce_space.specs.IndexSet.{has, count}
use Rattle.tce_tree.specs.Expr.{tree_of}
use Rattle.tce_tree.specs.ContractionTree.{ContractionTree, operations, node_dims}
use Rattle.tce_spec.proofs.PieceParts.{node_stands}
use Rattle.tce_spec.proofs.PieceRules.{cut_rank}
use Rattle.tce_spec.proofs.PieceCalls.{is_node, node_size, piece_is}
use Rattle.tce_spec.proofs.pieces.rest_of_piece.Goals as goal

pub overflow_cast-first : goal.overflow_cast-first
overflow_cast-first c =
    let is = is_node _ _ _ _ _ c.node_of-node.ensures c.expr.ensures.expr c.from.ensures in
    let size = node_size c.args.spec.now.tree (tree_of c.node_of-node.result.now) c.args.root c.operations.result c.requires.inside c.tree-tree.ensures.rules.few is c.operations.ensures in
    omega (arith, size)

pub overflow_sub-first : goal.overflow_sub-first
overflow_sub-first c =
    let is = is_node _ _ _ _ _ c.node_of-node.ensures c.expr.ensures.expr c.from.ensures in
    let size = node_size c.args.spec.now.tree (tree_of c.node_of-node.result.now) c.args.root c.operations.result c.requires.inside c.tree-tree.ensures.rules.few is c.operations.ensures in
    omega (arith, size)

pub rest_of-requires-clause-inside : goal.rest_of-requires-clause-inside
rest_of-requires-clause-inside c =
    let is = is_node _ _ _ _ _ c.node_of-node.ensures c.expr.ensures.expr c.from.ensures in
    let size = node_size c.args.spec.now.tree (tree_of c.node_of-node.result.now) c.args.root c.operations.result c.requires.inside c.tree-tree.ensures.rules.few is c.operations.ensures in
    omega (arith, size, c.requires.inside, ap operations c.tree-tree.ensures.tree)

pub rest_of-requires-clause-stands : goal.rest_of-requires-clause-stands
rest_of-requires-clause-stands c =
    let is = is_node _ _ _ _ _ c.node_of-node.ensures c.expr.ensures.expr c.from.ensures in
    let size = node_size c.args.spec.now.tree (tree_of c.node_of-node.result.now) c.args.root c.operations.result c.requires.inside c.tree-tree.ensures.rules.few is c.operations.ensures in
    node_stands c.tree-tree.result.now (tree_of c.node_of-node.result.now) c.args.root (c.args.root + 1 - c.operations.result)
    (omega (arith, c.requires.inside, ap operations c.tree-tree.ensures.tree))
    (is_node _ _ _ _ _ c.node_of-node.ensures (c.expr.ensures.expr ∙ sym c.tree-tree.ensures.tree) c.from.ensures)
    (omega (arith, size))

pub rest_of-requires-clause-rank : goal.rest_of-requires-clause-rank
rest_of-requires-clause-rank c = λ v inside t.
    subst (λ (t : ContractionTree). count (node_dims t v) ≤ 8) (sym c.tree-tree.ensures.tree) (cut_rank c.args.spec.now (has c.args.cuts) v c.requires.allowed t)

pub returns : goal.returns
returns c =
    let is = is_node _ _ _ _ _ c.node_of-node.ensures c.expr.ensures.expr c.from.ensures in
    let size = node_size c.args.spec.now.tree (tree_of c.node_of-node.result.now) c.args.root c.operations.result c.requires.inside c.tree-tree.ensures.rules.few is c.operations.ensures in
    subst (λ (t : ContractionTree). IfOk c.rest_of.result (λ rest. tree_of rest ≡ t))
    (piece_is c.args.spec.now.tree (tree_of c.node_of-node.result.now) (has c.args.cuts) c.args.root (c.args.root + 1 - c.operations.result) is (ap (λ n. c.args.root + 1 - n) size.0))
    c.rest_of.ensures
