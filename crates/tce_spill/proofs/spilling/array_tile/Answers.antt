use Rattle.std.proofs.Common.{refl, ap, ◌∙◌}
use Rattle.tce_space.specs.IndexSet.{has}
use Rattle.tce_space.specs.Tiling.{tile_words}
use Rattle.tce_spill.proofs.Sources.{array_words}
use Rattle.tce_spill.proofs.spilling.array_tile.Goals as goal

pub returns-clause-words : goal.returns-clause-words
returns-clause-words c =
    c.result_words-words.ensures.words
    ∙ ap tile_words (array_words c.args.spec.now (has c.args.cuts) c.args.v c.in_ok-piece.piece _ _ c.requires.can c.requires.cut c.in_ok-piece.ensures refl refl)
