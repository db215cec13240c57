use Rattle.std.proofs.Common.{◌∙◌, ap₂, sym, subst, slice_index, [], ◌∷◌, length, arith}
use Rattle.tce_space.specs.Box.{places}
use Rattle.tce_block.specs.declared.loops.Turn.TheVariants.{Grow, Compute}
use Rattle.tce_block.specs.Places.{word_place}
use Rattle.tce_block.specs.Turns.{IsMade, turned, operate}
use Rattle.tce_block.proofs.Innermost.{made_at_one, products_along, last_along, run_within, first_within, last_within}
use Rattle.tce_block.proofs.runs.turns_at_one.Goals as goal

pub dot_run-requires-clause-out : goal.dot_run-requires-clause-out
dot_run-requires-clause-out c = first_within _ _ _ _ c.requires.run.positive.0 c.requires.run.out_within

pub dot_run-requires-clause-a : goal.dot_run-requires-clause-a
dot_run-requires-clause-a c = run_within _ _ _ _ c.requires.run.left_within

pub dot_run-requires-clause-b : goal.dot_run-requires-clause-b
dot_run-requires-clause-b c = run_within _ _ _ _ c.requires.run.right_within

pub overflow_mul-last : goal.overflow_mul-last
overflow_mul-last c = omega (arith, c.requires.limit, last_within (length c.args.words.now) c.args.along.len c.args.left c.args.along.left c.requires.run.positive.0 c.requires.run.left_within)

pub overflow_add-left : goal.overflow_add-left
overflow_add-left c = omega (arith, c.requires.limit, last_within (length c.args.words.now) c.args.along.len c.args.left c.args.along.left c.requires.run.positive.0 c.requires.run.left_within)

pub get-a-requires : goal.get-a-requires
get-a-requires c = last_within _ _ _ _ c.requires.run.positive.0 c.requires.run.left_within

pub overflow_mul-last-in-Compute : goal.overflow_mul-last-in-Compute
overflow_mul-last-in-Compute c = omega (arith, c.requires.limit, last_within (length c.args.words.now) c.args.along.len c.args.right c.args.along.right c.requires.run.positive.0 c.requires.run.right_within)

pub overflow_add-right : goal.overflow_add-right
overflow_add-right c = omega (arith, c.requires.limit, last_within (length c.args.words.now) c.args.along.len c.args.right c.args.along.right c.requires.run.positive.0 c.requires.run.right_within)

pub get-b-requires : goal.get-b-requires
get-b-requires c = last_within _ _ _ _ c.requires.run.positive.0 c.requires.run.right_within

pub put-requires : goal.put-requires
put-requires c = first_within _ _ _ _ c.requires.run.positive.0 c.requires.run.out_within

pub returns-in-Grow : goal.returns-in-Grow
returns-in-Grow c =
    let old = c.args.words.now in let along = c.args.along in
    subst (λ turn. IsMade (turned turn old (word_place c.args.left (along.left ∷ [])) (word_place c.args.right (along.right ∷ []))) (word_place c.args.out (along.out ∷ [])) (places (along.len ∷ [])) old c.dot_run.new.self)
    (sym c.in-Grow.is)
    (made_at_one (turned Grow old (word_place c.args.left (along.left ∷ [])) (word_place c.args.right (along.right ∷ []))) c.args.out along.out along.len _ old c.dot_run.new.self c.requires.still
    (first_within _ _ _ _ c.requires.run.positive.0 c.requires.run.out_within) c.dot_run.ensures
    (products_along old c.args.left along.left c.args.right along.right along.len (slice_index old c.args.out) c.requires.run.positive.0))

pub returns-in-Compute : goal.returns-in-Compute
returns-in-Compute c =
    let old = c.args.words.now in let along = c.args.along in let operation = c.in-Compute.operation in
    subst (λ turn. IsMade (turned turn old (word_place c.args.left (along.left ∷ [])) (word_place c.args.right (along.right ∷ []))) (word_place c.args.out (along.out ∷ [])) (places (along.len ∷ [])) old c.put.new.self)
    (sym c.in-Compute.is)
    (made_at_one (turned (Compute operation) old (word_place c.args.left (along.left ∷ [])) (word_place c.args.right (along.right ∷ []))) c.args.out along.out along.len _ old c.put.new.self c.requires.still
    (first_within _ _ _ _ c.requires.run.positive.0 c.requires.run.out_within) c.put.ensures
    (c.result_of.ensures ∙ ap₂ (operate operation) c.get-a.ensures c.get-b.ensures
    ∙ last_along operation old c.args.left along.left c.args.right along.right along.len (slice_index old c.args.out) c.requires.run.positive.0))
