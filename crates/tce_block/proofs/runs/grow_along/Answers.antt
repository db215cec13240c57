use Rattle.std.proofs.Common.{◌+◌, ◌*◌, ap, sym, slice_index, arith, [], ◌∷◌}
use Rattle.tce_base.specs.Word.{wrapping_add}
use Rattle.tce_block.specs.Places.{word_place}
use Rattle.tce_block.specs.Turns.{grown}
use Rattle.tce_block.proofs.Innermost.{made_by_run, made_at_one, sum_along, run_within, run_apart, place_along, first_within}
use Rattle.tce_block.proofs.runs.grow_along.Goals as goal

pub sum_run-requires-clause-out : goal.sum_run-requires-clause-out
sum_run-requires-clause-out c = first_within _ _ _ _ c.requires.run.positive.0 c.requires.run.out_within

pub sum_run-requires-clause-a : goal.sum_run-requires-clause-a
sum_run-requires-clause-a c = run_within _ _ _ _ c.requires.run.operand_within

pub add_run-requires-clause-out : goal.add_run-requires-clause-out
add_run-requires-clause-out c = run_within _ _ _ _ c.requires.run.out_within

pub add_run-requires-clause-a : goal.add_run-requires-clause-a
add_run-requires-clause-a c = run_within _ _ _ _ c.requires.run.operand_within

pub add_run-requires-clause-apart : goal.add_run-requires-clause-apart
add_run-requires-clause-apart c = run_apart _ _ _ _ _ c.requires.run.operand_apart

pub returns-then-along-eq0 : goal.returns-then-along-eq0
returns-then-along-eq0 c =
    let old = c.args.words.now in let along = c.args.along in
    made_at_one (grown old (word_place c.args.operand (along.operand ∷ []))) c.args.out along.out along.len _ old c.sum_run.new.self c.if-along-eq0.true
    (first_within _ _ _ _ c.requires.run.positive.0 c.requires.run.out_within) c.sum_run.ensures (sum_along old c.args.operand along.operand along.len (slice_index old c.args.out) c.requires.run.positive.0)

pub returns-else-along-eq0 : goal.returns-else-along-eq0
returns-else-along-eq0 c =
    let old = c.args.words.now in let along = c.args.along in
    made_by_run _ (grown old (word_place c.args.operand (along.operand ∷ []))) c.args.out along.out along.len old c.add_run.new.self (omega (arith, c.if-along-eq0.false))
    c.add_run.ensures (λ t. ap (λ k. wrapping_add (slice_index old (c.args.out + t * along.out)) (slice_index old k)) (sym (place_along c.args.operand along.operand t)))
