use Rattle.std.proofs.Common.{◌≡◌, sym, ap, ◌∙◌, eqb-true, arith, get_or, length}
use Rattle.std.proofs.lemmas.List.{get_or_default}
use Rattle.std.specs.List.{list_all}
use Rattle.tce_space.specs.IndexSet.{has}
use Rattle.tce_tree.specs.Fusion.{kept_dims}
use Rattle.tce_walk.proofs.BandChecks.{kept_is}
use Rattle.tce_walk.proofs.band_search.is_placed.Goals as goal

pub returns-then-v-claim-clause-carrier : goal.returns-then-v-claim-clause-carrier
returns-then-v-claim-clause-carrier c = λ t q.
    let kept : c.minus-kept.result ≡ kept_dims c.args.walk.now.tree.now c.args.walk.now.fusion.now.0.items c.args.v =
    kept_is c.args.walk.now.tree.now c.args.walk.now.fusion.now.0.items c.args.v c.minus-kept.result c.dims.result c.index-deref-v.result c.minus-kept.ensures.value c.dims.ensures (c.index-deref-v.is ∙ get_or_default c.deref.result.now c.args.v c.index-deref-v.result 0 (omega (arith, c.if-v-len.false, c.len.ensures.value, ap length c.deref.ensures.0))
    ∙ ap (λ xs. get_or xs c.args.v 0) c.deref.ensures.0) in
    ap (λ k. list_all (has k) c.args.claim.now.loops.0.items) (sym kept)
    ∙ ap (list_all (has c.minus-kept.result)) (sym c.as_slice.ensures.value) ∙ c.are_in.ensures t

pub returns-else-v-claim-clause-others : goal.returns-else-v-claim-clause-others
returns-else-v-claim-clause-others c = λ t ne.
    let kept : c.minus-kept.result ≡ kept_dims c.args.walk.now.tree.now c.args.walk.now.fusion.now.0.items c.args.v =
    kept_is c.args.walk.now.tree.now c.args.walk.now.fusion.now.0.items c.args.v c.minus-kept.result c.dims.result c.index-deref-v.result c.minus-kept.ensures.value c.dims.ensures (c.index-deref-v.is ∙ get_or_default c.deref.result.now c.args.v c.index-deref-v.result 0 (omega (arith, c.if-v-len.false, c.len.ensures.value, ap length c.deref.ensures.0))
    ∙ ap (λ xs. get_or xs c.args.v 0) c.deref.ensures.0) in
    sym kept ∙ eqb-true c.minus-kept.result c.empty.result (sym c.eq.ensures ∙ t) ∙ c.empty.ensures.value
