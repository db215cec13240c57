use Rattle.std.proofs.Common.{◌+◌, ◌*◌, ap, sym, subst, slice_index, [], ◌∷◌}
use Rattle.tce_base.specs.Word.{wrapping_add, wrapping_mul}
use Rattle.tce_space.specs.Box.{places}
use Rattle.tce_block.specs.declared.loops.Turn.TheVariants.{Grow}
use Rattle.tce_block.specs.Places.{word_place}
use Rattle.tce_block.specs.Turns.{IsMade, turned}
use Rattle.tce_block.proofs.Innermost.{made_by_run, at_both, run_within, run_apart}
use Rattle.tce_block.proofs.runs.turns_along.Goals as goal

pub mul_add_run-requires-clause-out : goal.mul_add_run-requires-clause-out
mul_add_run-requires-clause-out c = run_within _ _ _ _ c.requires.run.out_within

pub mul_add_run-requires-clause-a : goal.mul_add_run-requires-clause-a
mul_add_run-requires-clause-a c = run_within _ _ _ _ c.requires.run.left_within

pub mul_add_run-requires-clause-b : goal.mul_add_run-requires-clause-b
mul_add_run-requires-clause-b c = run_within _ _ _ _ c.requires.run.right_within

pub mul_add_run-requires-clause-apart_from_a : goal.mul_add_run-requires-clause-apart_from_a
mul_add_run-requires-clause-apart_from_a c = run_apart _ _ _ _ _ c.requires.run.left_apart

pub mul_add_run-requires-clause-apart_from_b : goal.mul_add_run-requires-clause-apart_from_b
mul_add_run-requires-clause-apart_from_b c = run_apart _ _ _ _ _ c.requires.run.right_apart

pub returns-in-Grow : goal.returns-in-Grow
returns-in-Grow c =
    let old = c.args.words.now in let along = c.args.along in
    subst (λ turn. IsMade (turned turn old (word_place c.args.left (along.left ∷ [])) (word_place c.args.right (along.right ∷ []))) (word_place c.args.out (along.out ∷ [])) (places (along.len ∷ [])) old c.mul_add_run.new.self)
    (sym c.in-Grow.is)
    (made_by_run _ (turned Grow old (word_place c.args.left (along.left ∷ [])) (word_place c.args.right (along.right ∷ []))) c.args.out along.out along.len old c.mul_add_run.new.self c.requires.moving
    c.mul_add_run.ensures (λ t. ap (wrapping_add (slice_index old (c.args.out + t * along.out))) (at_both wrapping_mul old c.args.left along.left c.args.right along.right t)))

pub returns-in-Compute : goal.returns-in-Compute
returns-in-Compute c =
    let old = c.args.words.now in let along = c.args.along in
    subst (λ turn. IsMade (turned turn old (word_place c.args.left (along.left ∷ [])) (word_place c.args.right (along.right ∷ []))) (word_place c.args.out (along.out ∷ [])) (places (along.len ∷ [])) old c.results_along.new.words)
    (sym c.in-Compute.is) (record { same_length = c.results_along.ensures.same_length; made = c.results_along.ensures.made })
