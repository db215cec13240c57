use Rattle.std.proofs.Common.{◌∙◌, ℕ, [], ◌∷◌, ap}
use Rattle.std.specs.List.{range_with_len, fold}
use Rattle.tce_block.specs.Places.{word_place}
use Rattle.tce_block.specs.Turns.{grown_by_products, turned}
use Rattle.tce_block.specs.declared.loops.Turn.TheVariants.{Grow}
use Rattle.tce_block.proofs.Innermost.{made_at_one, first_within}
use Rattle.tce_block.proofs.runs.grow_at_one.Goals as goal

pub get-requires : goal.get-requires
get-requires c = first_within _ _ _ _ c.requires.run.positive.0 c.requires.run.out_within

pub put-requires : goal.put-requires
put-requires c = first_within _ _ _ _ c.requires.run.positive.0 c.requires.run.out_within

pub returns : goal.returns
returns c =
    let old = c.args.words.now in let along = c.args.along in
    let f : ℕ → ℕ → ℕ = λ w x. grown_by_products old (word_place c.args.left (along.left ∷ [])) (word_place c.args.right (along.right ∷ [])) w (x ∷ []) in
    made_at_one (turned Grow old (word_place c.args.left (along.left ∷ [])) (word_place c.args.right (along.right ∷ []))) c.args.out along.out along.len _ old c.put.new.self c.requires.still
    (first_within _ _ _ _ c.requires.run.positive.0 c.requires.run.out_within) c.put.ensures
    (c.grown_short-word.ensures ∙ ap (λ w. fold f w (range_with_len 0 along.len)) c.get.ensures)
