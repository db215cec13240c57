use Rattle.std.proofs.Common.{◌≡◌, ap, ◌∙◌, subst, true}
use Rattle.tce_space.specs.IndexSet.{has, minus}
use Rattle.tce_space.specs.Space.{volume_of}
use Rattle.tce_tree.specs.ContractionTree.{node_dims}
use Rattle.tce_fusion.proofs.SizeLaws.{kept_declared, kept_small, some_where, value_where}
use Rattle.tce_nesting.proofs.choice.choice_of.Goals as goal

pub volume-requires : goal.volume-requires
volume-requires c i h =
    let is : c.minus-kept.result ≡ minus (node_dims c.args.tree.now c.args.v) c.args.fused = c.minus-kept.ensures.value ∙ ap (λ d. minus d c.args.fused) c.dims.ensures in
    kept_declared c.args.space.now c.args.tree.now c.args.v c.args.fused c.index_count-count.ensures.limits c.requires.measured c.requires.inside i (subst (λ s. has s i ≡ true) is h)

pub unwrap-requires : goal.unwrap-requires
unwrap-requires c =
    let is : c.minus-kept.result ≡ minus (node_dims c.args.tree.now c.args.v) c.args.fused = c.minus-kept.ensures.value ∙ ap (λ d. minus d c.args.fused) c.dims.ensures in
    some_where _ _ _ c.volume.ensures.volume (rw is (kept_small c.args.space.now c.args.tree.now c.args.v c.args.fused c.index_count-count.ensures.limits c.requires.measured c.requires.inside))

pub returns-clause-size : goal.returns-clause-size
returns-clause-size c =
    value_where _ _ _ _ c.volume.ensures.volume c.unwrap.ensures
    ∙ ap (volume_of c.args.space.now) (c.minus-kept.ensures.value ∙ ap (λ d. minus d c.args.fused) c.dims.ensures)
