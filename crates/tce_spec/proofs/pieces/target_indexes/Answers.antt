use Rattle.std.proofs.Common.{◌≤◌, ◌∙◌, sym, ap, subst}
use Rattle.tce_space.specs.IndexSet.{has, count}
use Rattle.tce_tree.specs.ContractionTree.{ContractionTree, operations, node_dims}
use Rattle.tce_spec.proofs.PieceRules.{root_rank}
use Rattle.tce_spec.proofs.pieces.target_indexes.Goals as goal

pub dims_of-requires-clause-rank : goal.dims_of-requires-clause-rank
dims_of-requires-clause-rank c =
    subst (λ (t : ContractionTree). count (node_dims t c.args.root) ≤ 8) (sym c.tree-tree.ensures.tree)
    (root_rank c.args.spec.now (has c.args.cuts) c.args.root c.requires (λ q. c.if-root-count.false (q ∙ ap operations (sym c.tree-tree.ensures.tree) ∙ sym c.count.ensures.value)))
