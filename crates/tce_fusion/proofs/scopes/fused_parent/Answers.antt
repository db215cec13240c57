use Rattle.std.proofs.Common.{◌<◌, length, get_or, sym, ◌∙◌, ap, arith}
use Rattle.tce_space.specs.IndexSet.{has}
use Rattle.tce_fusion.proofs.Tops.{some_fused, none_fused, read_fused}
use Rattle.tce_fusion.proofs.scopes.fused_parent.Goals as goal

pub returns-then-has-clause-some : goal.returns-then-has-clause-some
returns-then-has-clause-some c =
    let within : c.args.v < length c.args.fusion.now.0.items = omega (arith, c.requires.fits.each, c.requires.inside) in
    let read = read_fused c.args.fusion.now.0.items c.args.v c.index-deref-v.result within
    (c.index-deref-v.is ∙ ap (λ xs. get_or xs c.args.v c.index-deref-v.result) c.deref.ensures.0) in
    some_fused _ _ _ _ _ c.parent.ensures.value (ap (λ s. has s c.args.i) (sym read) ∙ sym c.has.ensures ∙ c.if-has.true)

pub returns-then-has-clause-none : goal.returns-then-has-clause-none
returns-then-has-clause-none c = none_fused _ _ c.requires.fits _ _ c.requires.inside _ c.parent.ensures.value
