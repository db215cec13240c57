use Rattle.std.proofs.Common.{◌≤◌, true, All, ◌∙◌, subst, arith}
use Rattle.std.proofs.lemmas.List.{get_or_default}
use Rattle.tce_walk.proofs.TermsFound.{none_marked, terms_found}
use Rattle.tce_walk.specs.FoundTerms.{IsTermOver}
use Rattle.tce_walk.specs.Terms.{touches_of_terms}
use Rattle.tce_walk.proofs.combination.find_terms.Goals as goal

pub returns : goal.returns
returns c =
    terms_found c.args.walk.now.space.now c.args.walk.now.tree.now c.args.walk.now.fusion.now.0.items c.args.walk.now.ops.now c.args.band.now
    (record { terms = c.in_ok-terms.terms.terms; scale = c.in_ok-terms.terms.scale }) c.as_slice-loops.result.now c.dims.result c.in_ok-least.least c.in_ok-most.most _ _
    c.as_slice-loops.ensures.value (omega (arith, c.if-v-count.false, c.count.ensures.value)) (c.are_distinct.ensures c.if-not-are_distinct.false) (c.are_kept.ensures c.if-not-are_kept.false)
    (c.is_coarse.ensures c.if-not-is_coarse.false) c.in_ok-least.ensures
    (get_or_default c.check_values.new.right c.args.band.now.carrier true _ (omega (arith, c.check_values.array_long, c.if-v-count.false, c.count.ensures.value, c.count.ensures.limit)) ∙ c.if-not-right-v.false)
    (λ v l. none_marked 32 v (omega (arith, l, c.count.ensures.value, c.count.ensures.limit)))
    c.in_ok-terms.ensures (omega (arith, c.if-len-lt1.false, c.len.ensures.value))
    (subst (λ ts. touches_of_terms c.args.walk.now.space.now ts ≤ c.in_ok-most.most) c.as_slice.ensures.value c.in_ok-most.ensures) (omega (arith, c.if-most-least.false)) c.dims.ensures
    (subst (λ ts. All (IsTermOver c.args.walk.now.space.now c.args.walk.now.tree.now c.as_slice-loops.result.now c.dims.result) ts) c.as_slice-else-most-least.ensures.value (c.are_terms.ensures c.if-not-are_terms.false))
