use Rattle.std.proofs.Common.{◌≡◌, length, arith, ap, ◌∙◌, get_or}
use Rattle.tce_tree.specs.ContractionTree.{operations}
use Rattle.tce_tree.proofs.Flat.{kept_length, kept_at, kept_tree}
use Rattle.tce_tree.proofs.tree.Tree.node.Goals as goal

pub bounds-deref-v : goal.bounds-deref-v
bounds-deref-v c =
    let e : length c.self.inside.nodes.items ≡ operations c.args.self.now = kept_length _ _ c.self.invariant.flat_is c.self.view_is in
    omega (arith, ap length c.deref.ensures.0)

pub returns-clause-value : goal.returns-clause-value
returns-clause-value c =
    c.index-deref-v.is ∙ ap (λ xs. get_or xs c.args.v c.index-deref-v.result) c.deref.ensures.0
    ∙ kept_at _ _ c.self.invariant.flat_is c.self.view_is c.args.v c.index-deref-v.result c.requires

pub returns-clause-limit : goal.returns-clause-limit
returns-clause-limit c = (kept_tree _ _ c.self.invariant c.self.view_is).few_loops c.args.v c.requires
