use Rattle.std.proofs.Common.{◌∙◌, [], ◌∷◌, arith}
use Rattle.tce_block.specs.Rows.{AreFourWords}
use Rattle.tce_block.proofs.FourWords.{four_are}
use Rattle.tce_block.proofs.runs.grown_short.Goals as goal

pub grown_by_four-requires-clause-left : goal.grown_by_four-requires-clause-left
grown_by_four-requires-clause-left c =
    let four : AreFourWords c.args.along = c.are_four_words.ensures.0 c.if-are_four_words.true in
    omega (arith, four.0, four.1, c.requires.left (3 ∷ []) (omega (arith, four.0), tt))

pub grown_by_four-requires-clause-right : goal.grown_by_four-requires-clause-right
grown_by_four-requires-clause-right c =
    let four : AreFourWords c.args.along = c.are_four_words.ensures.0 c.if-are_four_words.true in
    omega (arith, four.0, four.2, c.requires.right (3 ∷ []) (omega (arith, four.0), tt))

pub returns-then-are_four_words : goal.returns-then-are_four_words
returns-then-are_four_words c =
    let four : AreFourWords c.args.along = c.are_four_words.ensures.0 c.if-are_four_words.true in
    c.grown_by_four.ensures ∙ four_are c.args.words.now c.args.along c.args.left c.args.right c.args.word four
