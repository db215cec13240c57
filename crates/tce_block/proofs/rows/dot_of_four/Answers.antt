use Rattle.std.proofs.Common.{◌∙◌, ap, [], ◌∷◌, arith}
use Rattle.tce_block.specs.Places.{word_place}
use Rattle.tce_block.specs.Turns.{turned}
use Rattle.tce_block.specs.Rows.{four_products}
use Rattle.tce_block.specs.declared.loops.Turn.TheVariants.{Grow}
use Rattle.tce_block.proofs.FourWords.{four_are}
use Rattle.tce_block.proofs.Innermost.{made_at_one, first_within}
use Rattle.tce_block.proofs.rows.dot_of_four.Goals as goal

pub get-requires : goal.get-requires
get-requires c = first_within _ _ _ _ c.requires.run.positive.0 c.requires.run.out_within

pub grown_by_four-word-requires-clause-left : goal.grown_by_four-word-requires-clause-left
grown_by_four-word-requires-clause-left c = omega (arith, c.requires.four.0, c.requires.four.1, c.requires.run.left_within (3 ∷ []) (omega (arith, c.requires.four.0), tt))

pub grown_by_four-word-requires-clause-right : goal.grown_by_four-word-requires-clause-right
grown_by_four-word-requires-clause-right c = omega (arith, c.requires.four.0, c.requires.four.2, c.requires.run.right_within (3 ∷ []) (omega (arith, c.requires.four.0), tt))

pub put-requires : goal.put-requires
put-requires c = first_within _ _ _ _ c.requires.run.positive.0 c.requires.run.out_within

pub returns : goal.returns
returns c =
    let old = c.args.words.now in let along = c.args._along in
    made_at_one (turned Grow old (word_place c.args.left (along.left ∷ [])) (word_place c.args.right (along.right ∷ []))) c.args.out along.out along.len _ old c.put.new.self c.requires.still
    (first_within _ _ _ _ c.requires.run.positive.0 c.requires.run.out_within) c.put.ensures
    (c.grown_by_four-word.ensures ∙ ap (four_products old c.args.left c.args.right) c.get.ensures ∙ four_are old along c.args.left c.args.right _ c.requires.four)
