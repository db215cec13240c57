use Rattle.std.proofs.Common.{◌∙◌, sym}
use Rattle.std.proofs.lemmas.Slice.Eq.{slice_eq-Decides}
use Rattle.std.proofs.lemmas.Bool.Decides.{Decides-eqb}
use Rattle.tce_tools.proofs.RowMajor.{ones_are_row_major, whole_is_row_major}
use Rattle.tce_tools.proofs.run.is_row_major.Goals as goal

pub returns-then-tile_words-eq1-clause-yes : goal.returns-then-tile_words-eq1-clause-yes
returns-then-tile_words-eq1-clause-yes c = λ passed. ones_are_row_major c.args.shape.now c.tile_words.ensures.limits (sym c.tile_words.ensures.words ∙ c.if-tile_words-eq1.true)

pub returns-else-tile_words-eq1-clause-yes : goal.returns-else-tile_words-eq1-clause-yes
returns-else-tile_words-eq1-clause-yes c = λ passed.
    whole_is_row_major c.args.shape.now (sym c.edges.ensures.items ∙ (slice_eq-Decides Decides-eqb c.edges.result.now c.extents-else-tile_words-eq1.result.now c.eq.result c.eq.ensures).0 passed ∙ c.extents-else-tile_words-eq1.ensures.items)
