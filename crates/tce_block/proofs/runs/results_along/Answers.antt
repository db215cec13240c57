use Rattle.std.proofs.Common.{sym, subst, [], ◌∷◌}
use Rattle.tce_base.specs.Word.{wrapping_add, wrapping_sub, wrapping_mul}
use Rattle.tce_space.specs.Box.{places}
use Rattle.tce_space.specs.declared.arithmetic.Arithmetic.TheVariants.{Multiply, Add, Subtract}
use Rattle.tce_block.specs.Places.{word_place}
use Rattle.tce_block.specs.Turns.{IsMade, computed}
use Rattle.tce_block.proofs.Innermost.{made_by_run, at_both, run_within, run_apart}
use Rattle.tce_block.proofs.runs.results_along.Goals as goal

pub mul_run-requires-clause-out : goal.mul_run-requires-clause-out
mul_run-requires-clause-out c = run_within _ _ _ _ c.requires.run.out_within

pub mul_run-requires-clause-a : goal.mul_run-requires-clause-a
mul_run-requires-clause-a c = run_within _ _ _ _ c.requires.run.left_within

pub mul_run-requires-clause-b : goal.mul_run-requires-clause-b
mul_run-requires-clause-b c = run_within _ _ _ _ c.requires.run.right_within

pub mul_run-requires-clause-apart_from_a : goal.mul_run-requires-clause-apart_from_a
mul_run-requires-clause-apart_from_a c = run_apart _ _ _ _ _ c.requires.run.left_apart

pub mul_run-requires-clause-apart_from_b : goal.mul_run-requires-clause-apart_from_b
mul_run-requires-clause-apart_from_b c = run_apart _ _ _ _ _ c.requires.run.right_apart

pub returns-in-Multiply : goal.returns-in-Multiply
returns-in-Multiply c =
    let old = c.args.words.now in let along = c.args.along in
    subst (λ operation. IsMade (computed operation old (word_place c.args.left (along.left ∷ [])) (word_place c.args.right (along.right ∷ []))) (word_place c.args.out (along.out ∷ [])) (places (along.len ∷ [])) old c.mul_run.new.self)
    (sym c.in-Multiply.is)
    (made_by_run _ (computed Multiply old (word_place c.args.left (along.left ∷ [])) (word_place c.args.right (along.right ∷ []))) c.args.out along.out along.len old c.mul_run.new.self c.requires.moving
    c.mul_run.ensures (λ t. at_both wrapping_mul old c.args.left along.left c.args.right along.right t))

pub plus_run-requires-clause-out : goal.plus_run-requires-clause-out
plus_run-requires-clause-out c = run_within _ _ _ _ c.requires.run.out_within

pub plus_run-requires-clause-a : goal.plus_run-requires-clause-a
plus_run-requires-clause-a c = run_within _ _ _ _ c.requires.run.left_within

pub plus_run-requires-clause-b : goal.plus_run-requires-clause-b
plus_run-requires-clause-b c = run_within _ _ _ _ c.requires.run.right_within

pub plus_run-requires-clause-apart_from_a : goal.plus_run-requires-clause-apart_from_a
plus_run-requires-clause-apart_from_a c = run_apart _ _ _ _ _ c.requires.run.left_apart

pub plus_run-requires-clause-apart_from_b : goal.plus_run-requires-clause-apart_from_b
plus_run-requires-clause-apart_from_b c = run_apart _ _ _ _ _ c.requires.run.right_apart

pub returns-in-Add : goal.returns-in-Add
returns-in-Add c =
    let old = c.args.words.now in let along = c.args.along in
    subst (λ operation. IsMade (computed operation old (word_place c.args.left (along.left ∷ [])) (word_place c.args.right (along.right ∷ []))) (word_place c.args.out (along.out ∷ [])) (places (along.len ∷ [])) old c.plus_run.new.self)
    (sym c.in-Add.is)
    (made_by_run _ (computed Add old (word_place c.args.left (along.left ∷ [])) (word_place c.args.right (along.right ∷ []))) c.args.out along.out along.len old c.plus_run.new.self c.requires.moving
    c.plus_run.ensures (λ t. at_both wrapping_add old c.args.left along.left c.args.right along.right t))

pub minus_run-requires-clause-out : goal.minus_run-requires-clause-out
minus_run-requires-clause-out c = run_within _ _ _ _ c.requires.run.out_within

pub minus_run-requires-clause-a : goal.minus_run-requires-clause-a
minus_run-requires-clause-a c = run_within _ _ _ _ c.requires.run.left_within

pub minus_run-requires-clause-b : goal.minus_run-requires-clause-b
minus_run-requires-clause-b c = run_within _ _ _ _ c.requires.run.right_within

pub minus_run-requires-clause-apart_from_a : goal.minus_run-requires-clause-apart_from_a
minus_run-requires-clause-apart_from_a c = run_apart _ _ _ _ _ c.requires.run.left_apart

pub minus_run-requires-clause-apart_from_b : goal.minus_run-requires-clause-apart_from_b
minus_run-requires-clause-apart_from_b c = run_apart _ _ _ _ _ c.requires.run.right_apart

pub returns-in-Subtract : goal.returns-in-Subtract
returns-in-Subtract c =
    let old = c.args.words.now in let along = c.args.along in
    subst (λ operation. IsMade (computed operation old (word_place c.args.left (along.left ∷ [])) (word_place c.args.right (along.right ∷ []))) (word_place c.args.out (along.out ∷ [])) (places (along.len ∷ [])) old c.minus_run.new.self)
    (sym c.in-Subtract.is)
    (made_by_run _ (computed Subtract old (word_place c.args.left (along.left ∷ [])) (word_place c.args.right (along.right ∷ []))) c.args.out along.out along.len old c.minus_run.new.self c.requires.moving
    c.minus_run.ensures (λ t. at_both wrapping_sub old c.args.left along.left c.args.right along.right t))
