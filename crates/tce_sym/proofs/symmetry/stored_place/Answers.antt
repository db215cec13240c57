use Rattle.std.proofs.Common.{◌≡◌, ◌∙◌, ℕ, ◌+◌, ◌*◌, ◌<◌, ◌^◌, List, get_or, sym, ap, subst, arith}
use Rattle.tce_space.specs.Box.{product, place, IsInside}
use Rattle.tce_space.specs.Tiling.{Tiling}
use Rattle.tce_sym.specs.declared.symmetry.Symmetry.{Symmetry}
use Rattle.tce_sym.specs.Storage.{at_first, at_second, at_others, pairs, stored_place, stored_count}
use Rattle.tce_sym.proofs.Sizes.{CanPlace, can_place, are_small}
use Rattle.tce_sym.proofs.symmetry.stored_place.Goals as goal

pub at_others-others-requires-clause-inside : goal.at_others-others-requires-clause-inside
at_others-others-requires-clause-inside c = (can_place c.args.shape.now c.args.s.now c.args.coords.now c.extents-extents.ensures.limits c.requires.right c.requires.inside c.requires.pair).long

pub at_others-others-requires-clause-short : goal.at_others-others-requires-clause-short
at_others-others-requires-clause-short c = (can_place c.args.shape.now c.args.s.now c.args.coords.now c.extents-extents.ensures.limits c.requires.right c.requires.inside c.requires.pair).short

pub place-outer-requires-clause-inside : goal.place-outer-requires-clause-inside
place-outer-requires-clause-inside c =
    let can = can_place c.args.shape.now c.args.s.now c.args.coords.now c.extents-extents.ensures.limits c.requires.right c.requires.inside c.requires.pair in
    let a : c.as_slice.result.now ≡ at_others c.args.s.now c.args.shape.now.extents = c.as_slice.ensures.value ∙ c.at_others-lengths.ensures ∙ ap (at_others c.args.s.now) c.extents-extents.ensures.items in
    let b : c.as_slice-2.result.now ≡ at_others c.args.s.now c.args.coords.now = c.as_slice-2.ensures.value ∙ c.at_others-others.ensures in
    subst (λ (l : List ℕ). IsInside l c.as_slice-2.result.now) (sym a) (subst (IsInside (at_others c.args.s.now c.args.shape.now.extents)) (sym b) can.inside)

pub place-outer-requires-clause-fits : goal.place-outer-requires-clause-fits
place-outer-requires-clause-fits c =
    let small = are_small c.args.shape.now c.args.s.now c.extents-extents.ensures.limits c.requires.right in
    let a : c.as_slice.result.now ≡ at_others c.args.s.now c.args.shape.now.extents = c.as_slice.ensures.value ∙ c.at_others-lengths.ensures ∙ ap (at_others c.args.s.now) c.extents-extents.ensures.items in
    omega (arith, ap product a, small.others)

pub bounds-coords-s : goal.bounds-coords-s
bounds-coords-s c =
    let can = can_place c.args.shape.now c.args.s.now c.args.coords.now c.extents-extents.ensures.limits c.requires.right c.requires.inside c.requires.pair in
    omega (arith, can.long, c.requires.right.ordered)

pub bounds-coords-s-2 : goal.bounds-coords-s-2
bounds-coords-s-2 c =
    (can_place c.args.shape.now c.args.s.now c.args.coords.now c.extents-extents.ensures.limits c.requires.right c.requires.inside c.requires.pair).long

pub pairs-requires : goal.pairs-requires
pairs-requires c =
    (can_place c.args.shape.now c.args.s.now c.args.coords.now c.extents-extents.ensures.limits c.requires.right c.requires.inside c.requires.pair).second

pub overflow_add-pair : goal.overflow_add-pair
overflow_add-pair c =
    let can = can_place c.args.shape.now c.args.s.now c.args.coords.now c.extents-extents.ensures.limits c.requires.right c.requires.inside c.requires.pair in
    omega (arith, c.pairs.ensures, can.within, can.small)

-- the place that is computed
record IsComputed (shape : Tiling) (s : Symmetry) (xs : List ℕ) (outer all pair : ℕ) : Type 0 where
  place : outer * all + pair ≡ stored_place shape.extents s xs
  within : outer * all + pair < stored_count shape.extents s
  small : outer * all + pair < 2 ^ 48

computed : (shape : Tiling) (s : Symmetry) (xs : List ℕ) (outer all pair : ℕ) → CanPlace shape s xs → outer ≡ place (at_others s shape.extents) (at_others s xs) → all ≡ pairs s.negated (at_first s shape.extents)
    → pair ≡ pairs s.negated (at_second s xs) + at_first s xs → IsComputed shape s xs outer all pair
computed shape s xs outer all pair can a b e =
    let product_is : outer * all ≡ place (at_others s shape.extents) (at_others s xs) * pairs s.negated (at_first s shape.extents) = ap (λ n. n * all) a ∙ ap (λ n. place (at_others s shape.extents) (at_others s xs) * n) b in
    let is : outer * all + pair ≡ stored_place shape.extents s xs = omega (arith, product_is, e) in
    record { place = is; within = omega (arith, is, can.within); small = omega (arith, is, can.within, can.small) }

of_place : (c : goal.After-pairs-2) → IsComputed c.args.shape.now c.args.s.now c.args.coords.now c.place-outer.result c.pairs-2.result (c.pairs.result + get_or c.args.coords.now c.args.s.now.first 0)
of_place c =
    let can = can_place c.args.shape.now c.args.s.now c.args.coords.now c.extents-extents.ensures.limits c.requires.right c.requires.inside c.requires.pair in
    let a : c.as_slice.result.now ≡ at_others c.args.s.now c.args.shape.now.extents = c.as_slice.ensures.value ∙ c.at_others-lengths.ensures ∙ ap (at_others c.args.s.now) c.extents-extents.ensures.items in
    let b : c.as_slice-2.result.now ≡ at_others c.args.s.now c.args.coords.now = c.as_slice-2.ensures.value ∙ c.at_others-others.ensures in
    computed c.args.shape.now c.args.s.now c.args.coords.now _ _ _ can (c.place-outer.ensures.place ∙ ap (λ l. place l c.as_slice-2.result.now) a ∙ ap (place (at_others c.args.s.now c.args.shape.now.extents)) b)
    (c.pairs-2.ensures ∙ ap (λ l. pairs c.args.s.now.negated (at_first c.args.s.now l)) c.extents-extents.ensures.items)
    (ap (λ n. n + get_or c.args.coords.now c.args.s.now.first 0) c.pairs.ensures)

pub overflow_mul-result : goal.overflow_mul-result
overflow_mul-result c = omega (arith, (of_place c).small)

pub overflow_add-result : goal.overflow_add-result
overflow_add-result c = omega (arith, (of_place c).small)

pub returns-clause-place : goal.returns-clause-place
returns-clause-place c = (of_place c).place

pub returns-clause-within : goal.returns-clause-within
returns-clause-within c = (of_place c).within
