use Rattle.std.proofs.Common.{◌≡◌, ◌<◌, length, get_or, ap, ap₂, ◌∙◌, subst, arith, true}
use Rattle.tce_space.specs.IndexSet.{has, minus}
use Rattle.tce_space.specs.Space.{volume_of}
use Rattle.tce_tree.specs.ContractionTree.{node_dims}
use Rattle.tce_tree.specs.Fusion.{kept_dims}
use Rattle.tce_tree.specs.Memory.{size_at}
use Rattle.tce_fusion.proofs.Tops.{read_fused}
use Rattle.tce_fusion.proofs.SizeLaws.{kept_declared, kept_small, some_where, value_where}
use Rattle.tce_fusion.proofs.sizes.size_of.Goals as goal

pub volume-requires : goal.volume-requires
volume-requires c i h =
    let is : c.minus-kept.result ≡ minus (node_dims c.args.tree.now c.args.v) c.index-deref-v.result = c.minus-kept.ensures.value ∙ ap (λ d. minus d c.index-deref-v.result) c.dims.ensures in
    kept_declared c.args.space.now c.args.tree.now c.args.v c.index-deref-v.result c.index_count-count.ensures.limits c.requires.measured (omega arith) i (subst (λ s. has s i ≡ true) is h)

pub unwrap-requires : goal.unwrap-requires
unwrap-requires c =
    let is : c.minus-kept.result ≡ minus (node_dims c.args.tree.now c.args.v) c.index-deref-v.result = c.minus-kept.ensures.value ∙ ap (λ d. minus d c.index-deref-v.result) c.dims.ensures in
    some_where _ _ _ c.volume.ensures.volume (rw is (kept_small c.args.space.now c.args.tree.now c.args.v c.index-deref-v.result c.index_count-count.ensures.limits c.requires.measured (omega arith)))

pub returns-clause-value : goal.returns-clause-value
unfolding size_at kept_dims
returns-clause-value c =
    let within : c.args.v < length c.args.fusion.now.0.items = omega (arith, c.requires.fits.each, c.requires.inside) in
    let read = read_fused c.args.fusion.now.0.items c.args.v c.index-deref-v.result within
    (c.index-deref-v.is ∙ ap (λ xs. get_or xs c.args.v c.index-deref-v.result) c.deref.ensures.0) in
    value_where _ _ _ _ c.volume.ensures.volume c.unwrap.ensures
    ∙ ap (volume_of c.args.space.now) (c.minus-kept.ensures.value ∙ ap₂ minus c.dims.ensures read)
