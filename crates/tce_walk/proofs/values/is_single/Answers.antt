use Rattle.std.proofs.Common.{◌≡◌, sym, ap, ◌∙◌, eqb-true, arith, get_or, length}
use Rattle.std.proofs.lemmas.List.{get_or_default}
use Rattle.tce_tree.specs.Fusion.{kept_dims}
use Rattle.tce_walk.proofs.BandChecks.{kept_is}
use Rattle.tce_walk.proofs.values.is_single.Goals as goal

pub returns : goal.returns
returns c = λ t.
    let kept : c.minus.result ≡ kept_dims c.args.walk.now.tree.now c.args.walk.now.fusion.now.0.items c.args.v =
    kept_is c.args.walk.now.tree.now c.args.walk.now.fusion.now.0.items c.args.v c.minus.result c.dims.result c.index-deref-v.result c.minus.ensures.value c.dims.ensures
    (c.index-deref-v.is ∙ get_or_default c.deref.result.now c.args.v c.index-deref-v.result 0 (omega (arith, c.if-v-len.false, c.len.ensures.value, ap length c.deref.ensures.0))
    ∙ ap (λ xs. get_or xs c.args.v 0) c.deref.ensures.0) in
    sym kept ∙ eqb-true c.minus.result c.empty.result (sym c.eq.ensures ∙ t) ∙ c.empty.ensures.value
