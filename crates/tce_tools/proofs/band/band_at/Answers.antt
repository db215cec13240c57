use Rattle.std.proofs.Common.{◌∙◌, ◌%◌, ap, refl, arith}
use Rattle.tce_tools.proofs.Bands.{front_is_band, step}
use Rattle.tce_tools.proofs.band.band_at.Goals as goal

pub returns-then-is_row_major-clause-band : goal.returns-then-is_row_major-clause-band
returns-then-is_row_major-clause-band c =
    front_is_band c.args.shape.now _ c.elements-elements.ensures.limits (omega (arith, c.elements-elements.ensures.elements, c.elements-elements.ensures.within)) (c.if-is_row_major.ensures.yes refl) refl
    (omega (arith, c.requires, c.elements-elements.ensures.elements, c.min-len.ensures)) (omega (arith, c.min-len.ensures)) (omega (arith, c.requires, c.elements-elements.ensures.elements, c.min-len.ensures)) refl refl refl

pub nonzero_rem-start : goal.nonzero_rem-start
nonzero_rem-start c = (step c.args.shape.now c.first_short-behind.result c.elements-elements.ensures.limits c.first_short-behind.ensures).some_elements

pub steps_at-requires-2-clause-first : goal.steps_at-requires-2-clause-first
steps_at-requires-2-clause-first c = ap (λ n. c.args.start % n) c.last_dimension.ensures.single ∙ omega arith
