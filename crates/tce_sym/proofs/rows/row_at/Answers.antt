use Rattle.std.proofs.Common.{◌≡◌, ◌∙◌, ℕ, ◌<◌, List, length, sym, ap, subst, arith}
use Rattle.tce_space.specs.Box.{product, IsInside}
use Rattle.tce_space.proofs.Boxes.{length_inside}
use Rattle.tce_sym.specs.Storage.{at_others}
use Rattle.tce_sym.proofs.Cuts.{are_inside, others_inside}
use Rattle.tce_sym.proofs.Sizes.{are_small}
use Rattle.tce_sym.proofs.rows.row_at.Goals as goal

pub at_others-others-requires-clause-inside : goal.at_others-others-requires-clause-inside
at_others-others-requires-clause-inside c = omega (arith, c.requires.right.inside, length_inside c.args.shape.now.extents c.args.coords.now c.requires.inside)

pub at_others-others-requires-clause-short : goal.at_others-others-requires-clause-short
at_others-others-requires-clause-short c = omega (arith, c.extents.ensures.limits.rank, length_inside c.args.shape.now.extents c.args.coords.now c.requires.inside)

pub place-requires-clause-inside : goal.place-requires-clause-inside
place-requires-clause-inside c =
    let a : c.as_slice.result.now ≡ at_others c.args.s.now c.args.shape.now.extents = c.as_slice.ensures.value ∙ c.at_others-lengths.ensures ∙ ap (at_others c.args.s.now) c.extents.ensures.items in
    let b : c.as_slice-2.result.now ≡ at_others c.args.s.now c.args.coords.now = c.as_slice-2.ensures.value ∙ c.at_others-others.ensures in
    let inside : IsInside (at_others c.args.s.now c.args.shape.now.extents) (at_others c.args.s.now c.args.coords.now) =
    others_inside c.args.s.now c.args.shape.now.extents c.args.coords.now (are_inside c.args.s.now c.args.shape.now.extents c.args.coords.now c.requires.right.ordered c.requires.right.inside c.requires.inside) in
    subst (λ (l : List ℕ). IsInside l c.as_slice-2.result.now) (sym a) (subst (IsInside (at_others c.args.s.now c.args.shape.now.extents)) (sym b) inside)

pub place-requires-clause-fits : goal.place-requires-clause-fits
place-requires-clause-fits c =
    let a : c.as_slice.result.now ≡ at_others c.args.s.now c.args.shape.now.extents = c.as_slice.ensures.value ∙ c.at_others-lengths.ensures ∙ ap (at_others c.args.s.now) c.extents.ensures.items in
    omega (arith, ap product a, (are_small c.args.shape.now c.args.s.now c.extents.ensures.limits c.requires.right).others)

pub bounds-coords-s : goal.bounds-coords-s
bounds-coords-s c = omega (arith, c.requires.right.ordered, c.requires.right.inside, length_inside c.args.shape.now.extents c.args.coords.now c.requires.inside)

pub bounds-coords-s-2 : goal.bounds-coords-s-2
bounds-coords-s-2 c = omega (arith, c.requires.right.inside, length_inside c.args.shape.now.extents c.args.coords.now c.requires.inside)

pub returns-clause-other : goal.returns-clause-other
returns-clause-other c = λ differs.
    let long : c.args.s.now.second < length c.args.coords.now = omega (arith, c.requires.right.inside, length_inside c.args.shape.now.extents c.args.coords.now c.requires.inside) in
    grind (arith, differs, long)
