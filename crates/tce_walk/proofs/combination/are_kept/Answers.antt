use Rattle.std.proofs.Common.{◌≡◌, true, sym, ap, ◌∙◌, subst, arith, get_or, length}
use Rattle.std.proofs.lemmas.List.{get_or_default}
use Rattle.std.specs.List.{list_all}
use Rattle.tce_space.specs.IndexSet.{has}
use Rattle.tce_tree.specs.Fusion.{kept_dims}
use Rattle.tce_walk.proofs.BandChecks.{kept_is}
use Rattle.tce_walk.proofs.combination.are_kept.Goals as goal

pub returns-then-are_in : goal.returns-then-are_in
returns-then-are_in c = λ t.
    let kept : c.minus-kept.result ≡ kept_dims c.args.walk.now.tree.now c.args.walk.now.fusion.now.0.items c.args.v =
    kept_is c.args.walk.now.tree.now c.args.walk.now.fusion.now.0.items c.args.v c.minus-kept.result c.dims.result c.index-deref-v.result c.minus-kept.ensures.value c.dims.ensures
    (c.index-deref-v.is ∙ get_or_default c.deref.result.now c.args.v c.index-deref-v.result 0 (omega (arith, c.if-v-len.false, c.len.ensures.value, ap length c.deref.ensures.0))
    ∙ ap (λ xs. get_or xs c.args.v 0) c.deref.ensures.0) in
    record {
      kept = subst (λ set. list_all (has set) c.args.loops.now ≡ true) kept (c.are_in.ensures c.if-are_in.true);
      over = λ i m. sym (c.in-Some.ensures.inside i) ∙ c.within.ensures.0 t i (ap (λ n. has n i) c.dims-then-are_in.ensures ∙ m);
    }
