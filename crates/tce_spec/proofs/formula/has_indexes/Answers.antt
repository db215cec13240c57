use Rattle.std.proofs.Common.{◌≡◌, ap, ◌∙◌, arith, eqb}
use Rattle.tce_space.specs.IndexSet.{set_of}
use Rattle.tce_tree.specs.ContractionTree.{dims}
use Rattle.tce_spec.proofs.Root.{root_dims}
use Rattle.tce_spec.proofs.formula.has_indexes.Goals as goal

pub returns : goal.returns
returns c =
    let all : c.dims.result ≡ dims c.args.tree.now = c.dims.ensures ∙ root_dims c.args.tree.now _ (omega (arith, c.count-root.ensures.value)) in
    c.eq.ensures ∙ ap (λ s. eqb s c.dims.result) c.of_list.ensures.value ∙ ap (λ s. eqb (set_of c.args.indexes.now) s) all
