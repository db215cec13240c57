use Rattle.std.proofs.Common.{length, sym, ap, ◌∙◌}
use Rattle.tce_space.specs.IndexSet.{has}
use Rattle.tce_tree.specs.Expr.{tree_of}
use Rattle.tce_tree.proofs.NamedIndexes.{indexes_below-le, dims_below}
use Rattle.tce_tree.proofs.building.dims_of.Goals as goal

pub dims-requires : goal.dims-requires
dims-requires c = indexes_below-le (length c.args.space.now.indexes) 24 (tree_of c.args.expr.now) c.index_count-count.ensures.limits.index_limit c.requires

pub returns-clause-declared : goal.returns-clause-declared
returns-clause-declared c i h =
    dims_below (length c.args.space.now.indexes) (tree_of c.args.expr.now) i c.index_count-count.ensures.limits.index_limit c.requires
    (sym (ap (λ s. has s i) c.dims.ensures) ∙ h)
